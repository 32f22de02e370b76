use Rattle.std.proofs.Common.{◌≡◌, ap, sym, subst, Err}
use Rattle.vd_model.specs.declared.queue.RingPlace.{RingPlace}
use Rattle.vr_split.specs.Reach.{RingInReach}
use Rattle.vr_split.specs.ReachLemmas.{used_event-reached, available_flags-reached}
use Rattle.vr_device.specs.Side.{Side}
use Rattle.vr_device.proofs.Reached.{number-loaded}
use Rattle.vr_device.proofs.ring.DeviceRing.should_interrupt.Goals as goal

pub returns-in_err-event-clause-in_reach : goal.returns-in_err-event-clause-in_reach
returns-in_err-event-clause-in_reach g c r =
    let place : c.self.inside.place ≡ c.args.self.now.place = ap (λ (s : Side). s.place) c.self.view_is in
    let ring = subst (λ (p : RingPlace). RingInReach (g.M.Mem.told c.args.mem.now) (g.M.Mem.span c.args.mem.now) p) (sym place) r in
    let ok = number-loaded (g.M.Mem.told c.args.mem.now) (g.M.Mem.span c.args.mem.now) _ _ (Err c.in_err-event.field-0.0) c.used_event.ensures c.in_err-event.ensures.loads c.in_err-event.ensures.spanned
    (used_event-reached (g.M.Mem.told c.args.mem.now) (g.M.Mem.span c.args.mem.now) c.self.inside.place (g.met.M.Mem.told_ends c.args.mem.now) (g.met.M.Mem.span_ends c.args.mem.now) ring.driver) in
    absurd (cc)

pub returns-in_err-flags-clause-in_reach : goal.returns-in_err-flags-clause-in_reach
returns-in_err-flags-clause-in_reach g c r =
    let place : c.self.inside.place ≡ c.args.self.now.place = ap (λ (s : Side). s.place) c.self.view_is in
    let ring = subst (λ (p : RingPlace). RingInReach (g.M.Mem.told c.args.mem.now) (g.M.Mem.span c.args.mem.now) p) (sym place) r in
    let ok = number-loaded (g.M.Mem.told c.args.mem.now) (g.M.Mem.span c.args.mem.now) _ _ (Err c.in_err-flags.field-0.0) c.available_flags.ensures c.in_err-flags.ensures.loads c.in_err-flags.ensures.spanned
    (available_flags-reached (g.M.Mem.told c.args.mem.now) (g.M.Mem.span c.args.mem.now) c.self.inside.place (g.met.M.Mem.told_ends c.args.mem.now) (g.met.M.Mem.span_ends c.args.mem.now) ring.driver) in
    absurd (cc)
