use Rattle.std.proofs.Common.{◌≡◌, ◌==◌, false, nat_lt, Option, Some, Result, Ok, Err, ap, sym, subst, ◌∙◌, arith}
use Rattle.std.proofs.lemmas.Bool.Decides.{nat_tests}
use Rattle.std.proofs.lemmas.Result.{err_from_is_err_and}
use Rattle.vd_model.specs.Rings.{minus16, number16}
use Rattle.vd_model.specs.declared.parts.Chain.{Chain}
use Rattle.vr_device.specs.Side.{Side}
use Rattle.vr_device.specs.Device.{IsUnlessMemory, next_of}
use Rattle.vr_device.specs.declared.error.PopError.{PopError}
use Rattle.vd_model.specs.declared.queue.RingPlace.{RingPlace}
use Rattle.vr_split.specs.Reach.{RingInReach}
use Rattle.vr_split.specs.ReachLemmas.{reached_still, available_index-reached, available_slot-reached}
use Rattle.vr_device.proofs.Reached.{number-loaded}
use Rattle.vr_device.proofs.NextLemmas.{next-fails, next-gives}
use Rattle.vr_device.proofs.ring.DeviceRing.next.Goals as goal

pub returns-in_err-chain-clause-next : goal.returns-in_err-chain-clause-next
returns-in_err-chain-clause-next g c m told =
    let i = c.self.inside in
    let side : Side = record { place = i.place; position = i.position; used = i.used } in
    let p = err_from_is_err_and c.from_residual-in_err-chain.result c.from_residual-in_err-chain.ensures.1 in
    let second = c.in_ok-found.ensures.memory.same_told ∙ told in
    let third = c.in_ok-head.ensures.memory.same_told ∙ second in
    let some : (c.in_ok-found.found == i.position) ≡ false = grind (arith, nat_tests) in
    let near : nat_lt i.place.size (minus16 c.in_ok-found.found i.position) ≡ false = grind (arith, nat_tests) in
    subst (λ (s : Side). IsUnlessMemory c.from_residual-in_err-chain.result (next_of m s c.args.indirect)) c.self.view_is
    (subst (λ (r : Result (Option Chain) PopError). IsUnlessMemory r (next_of m side c.args.indirect)) (sym (p.1 ∙ ap Err p.2))
    (next-fails m side c.in_ok-head.head c.args.indirect c.in_err-chain.field-0.0 (record {
      found = c.in_ok-found.found;
      index = ap (number16 m) (sym c.available_index.ensures) ∙ c.in_ok-found.ensures.loads m told;
      some = some;
      near = near;
      slot = ap (number16 m) (sym c.available_slot.ensures) ∙ c.in_ok-head.ensures.loads m second;
    }) (c.in_err-chain.ensures.computed m third)))

pub returns-clause-next : goal.returns-clause-next
returns-clause-next g c m told =
    let i = c.self.inside in
    let side : Side = record { place = i.place; position = i.position; used = i.used } in
    let second = c.in_ok-found.ensures.memory.same_told ∙ told in
    let third = c.in_ok-head.ensures.memory.same_told ∙ second in
    let some : (c.in_ok-found.found == i.position) ≡ false = grind (arith, nat_tests) in
    let near : nat_lt i.place.size (minus16 c.in_ok-found.found i.position) ≡ false = grind (arith, nat_tests) in
    subst (λ (s : Side). IsUnlessMemory (Ok (Some c.in_ok-chain.chain)) (next_of m s c.args.indirect)) c.self.view_is
    (next-gives m side c.in_ok-head.head c.args.indirect c.in_ok-chain.chain (record {
      found = c.in_ok-found.found;
      index = ap (number16 m) (sym c.available_index.ensures) ∙ c.in_ok-found.ensures.loads m told;
      some = some;
      near = near;
      slot = ap (number16 m) (sym c.available_slot.ensures) ∙ c.in_ok-head.ensures.loads m second;
    }) (c.in_ok-chain.ensures.computed m third))

pub returns-in_err-found-clause-in_reach : goal.returns-in_err-found-clause-in_reach
returns-in_err-found-clause-in_reach g c r n at =
    let place : c.self.inside.place ≡ c.args.self.now.place = ap (λ (s : Side). s.place) c.self.view_is in
    let ring = subst (λ (p : RingPlace). RingInReach (g.M.Mem.told c.args.mem.now) (g.M.Mem.span c.args.mem.now) p) (sym place) r in
    let ok = number-loaded (g.M.Mem.told c.args.mem.now) (g.M.Mem.span c.args.mem.now) _ _ (Err c.in_err-found.field-0.0) c.available_index.ensures c.in_err-found.ensures.loads c.in_err-found.ensures.spanned
    (available_index-reached (g.M.Mem.told c.args.mem.now) (g.M.Mem.span c.args.mem.now) c.self.inside.place (g.met.M.Mem.told_ends c.args.mem.now) (g.met.M.Mem.span_ends c.args.mem.now) ring.driver) in
    absurd (cc)

pub returns-in_err-head-clause-in_reach : goal.returns-in_err-head-clause-in_reach
returns-in_err-head-clause-in_reach g c r n at =
    let place : c.self.inside.place ≡ c.args.self.now.place = ap (λ (s : Side). s.place) c.self.view_is in
    let ring = subst (λ (p : RingPlace). RingInReach (g.M.Mem.told c.args.mem.now) (g.M.Mem.span c.args.mem.now) p) (sym place) r in
    let reach = available_slot-reached (g.M.Mem.told c.args.mem.now) (g.M.Mem.span c.args.mem.now) c.self.inside.place (g.met.M.Mem.told_ends c.args.mem.now) (g.met.M.Mem.span_ends c.args.mem.now) c.self.invariant.0 c.self.inside.position ring.driver in
    let ok = number-loaded (g.M.Mem.told c.load16.new.self) (g.M.Mem.span c.load16.new.self) _ _ (Err c.in_err-head.field-0.0) c.available_slot.ensures c.in_err-head.ensures.loads c.in_err-head.ensures.spanned
    (reached_still c.in_ok-found.ensures.memory _ 2 reach) in
    absurd (cc)
