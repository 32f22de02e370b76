use Rattle.std.proofs.Common.{sym, ap, ◌-◌, ◌∙◌, ◌++◌, refl, append_assoc}
use Rattle.std.specs.List.{slice_index}
use Rattle.vd_model.specs.Puts.{each_from}
use Rattle.vd_vhost_model.specs.declared.access.Access.TheVariants.{Read}
use Rattle.vd_vhost_model.specs.GuestTable.{loaded}
use Rattle.vd_guest.proofs.Onward.{below_end, denied_at_once, denied_past, shown_past}
use Rattle.vd_guest.proofs.part.load.Goals as goal

pub returns-in-Err : goal.returns-in-Err
returns-in-Err c given s = record {
  told_is = sym (denied_at_once given Read c.loop-left.next c.loop-left.left c.in-Err.why c.loop-left-test.true (c.in-Err.ensures.part given s)) ∙ c.loop-left.invariant.denies given s;
  shown = λ none. cc;
}

pub loop-left-preserved : goal.loop-left-preserved
loop-left-preserved c = record {
  next = below_end c.past-next.result c.loop-left.next c.in-Ok.part.len c.past-next.ensures;
  denies = λ given s.
      denied_past given c.loop-left.next c.loop-left.left c.past-next.result c.in-Ok.part c.loop-left.invariant.next c.past-next.ensures Read (c.in-Ok.ensures.part given s)
      ∙ c.loop-left.invariant.denies given s;
  shows = λ given s.
      let memory = slice_index c.args.memory.now in
      let rest = loaded given memory c.past-next.result (c.loop-left.left - c.in-Ok.part.len) in
      ap (λ bytes. bytes ++ rest) (c.in_ok-extend_from_slice-in-Ok.ensures.items ∙ ap (λ bytes. c.loop-left.into.items ++ bytes) (c.bytes_of.ensures memory (λ o. refl)))
      ∙ append_assoc c.loop-left.into.items (each_from memory c.in-Ok.part.offset c.in-Ok.part.len) rest
      ∙ ap (λ bytes. c.loop-left.into.items ++ bytes) (sym (shown_past given c.loop-left.next c.loop-left.left c.past-next.result c.in-Ok.part c.loop-left.invariant.next c.past-next.ensures memory (c.in-Ok.ensures.part given s)))
      ∙ c.loop-left.invariant.shows given s;
}
