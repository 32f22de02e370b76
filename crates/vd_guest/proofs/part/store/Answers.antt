use Rattle.std.proofs.Common.{◌≡◌, ◌<◌, ◌-◌, ℕ, Some, None, length, sym, ap, subst, ◌∙◌, arith, rules}
use Rattle.vd_vhost_model.specs.declared.access.Access.TheVariants.{Write}
use Rattle.vd_vhost_model.specs.GuestTable.{first_denial}
use Rattle.vd_guest.specs.Kept.{AreWithin}
use Rattle.vd_guest.proofs.Onward.{below_end, denied_at_once, denied_past, stored_past}
use Rattle.vd_guest.proofs.part.store.Goals as goal

pub returns-in_default : goal.returns-in_default
returns-in_default c given s allowed o =
    let some : 0 < length c.loop-rest.rest.now = search rules in
    let denied = denied_at_once given Write c.loop-rest.next (length c.loop-rest.rest.now) c.in_default.field-0 some (c.in_default.ensures.part given s) in
    let contrary : Some c.in_default.field-0 ≡ None = sym denied ∙ c.loop-rest.invariant.allowed given s allowed in
    cc

pub loop-rest-preserved : goal.loop-rest-preserved
loop-rest-preserved c = record {
  next = below_end c.past-next.result c.loop-rest.next c.in-Ok.part.len c.past-next.ensures;
  within = subst (λ n. AreWithin n c.args.regions.now) (sym c.write.auto.memory) c.loop-rest.invariant.within;
  allowed = λ given s none.
      let left : length c.loop-rest.rest.now - c.in-Ok.part.len ≡ length c.split_at.result.1.now = (let back = c.split_at.ensures.back_len in omega arith) in
      sym (ap (first_denial given Write c.past-next.result) left)
      ∙ denied_past given c.loop-rest.next (length c.loop-rest.rest.now) c.past-next.result c.in-Ok.part c.loop-rest.invariant.next c.past-next.ensures Write (c.in-Ok.ensures.part given s)
      ∙ c.loop-rest.invariant.allowed given s none;
  stores = λ given s o.
      stored_past given c.loop-rest.next (length c.loop-rest.rest.now) c.past-next.result c.in-Ok.part c.loop-rest.invariant.next c.past-next.ensures (c.in-Ok.ensures.part given s)
      c.loop-rest.rest.now c.split_at.result.0.now c.split_at.result.1.now c.loop-rest.memory c.write.new.memory c.split_at.ensures.by_index.0 c.split_at.ensures.front_len c.write.ensures o
      ∙ c.loop-rest.invariant.stores given s o;
}
