use Rattle.std.proofs.Common.{◌≡◌, ℕ, ap, sym, subst, Err}
use Rattle.vd_model.specs.declared.queue.RingPlace.{RingPlace}
use Rattle.vr_split.specs.Reach.{Reaches, RingInReach}
use Rattle.vr_split.specs.ReachLemmas.{load-there, reached_still, used_element-reached, used_index-reached}
use Rattle.vr_device.specs.Side.{Side}
use Rattle.vr_device.proofs.Reached.{number-loaded}
use Rattle.vr_device.proofs.ring.DeviceRing.check_used.Goals as goal

pub returns-in_err-load-clause-in_reach : goal.returns-in_err-load-clause-in_reach
returns-in_err-load-clause-in_reach g c r =
    let place : c.self.inside.place ≡ c.args.self.now.place = ap (λ (s : Side). s.place) c.self.view_is in
    let ring = subst (λ (p : RingPlace). RingInReach (g.M.Mem.told c.args.mem.now) (g.M.Mem.span c.args.mem.now) p) (sym place) r in
    let reach = used_element-reached (g.M.Mem.told c.args.mem.now) (g.M.Mem.span c.args.mem.now) c.self.inside.place (g.met.M.Mem.told_ends c.args.mem.now) (g.met.M.Mem.span_ends c.args.mem.now) c.self.invariant.0 c.self.inside.used ring.device in
    let ok = load-there (g.M.Mem.told c.args.mem.now) (g.M.Mem.span c.args.mem.now) c.used_element.result 8 c.load.new.out (Err c.in_err-load.field-0.0) c.in_err-load.ensures.loads c.in_err-load.ensures.spanned
    (subst (λ (a : ℕ). Reaches (g.M.Mem.told c.args.mem.now) (g.M.Mem.span c.args.mem.now) a 8) (sym c.used_element.ensures) reach) in
    absurd (cc)

pub returns-in_err-load16-clause-in_reach : goal.returns-in_err-load16-clause-in_reach
returns-in_err-load16-clause-in_reach g c r =
    let place : c.self.inside.place ≡ c.args.self.now.place = ap (λ (s : Side). s.place) c.self.view_is in
    let ring = subst (λ (p : RingPlace). RingInReach (g.M.Mem.told c.args.mem.now) (g.M.Mem.span c.args.mem.now) p) (sym place) r in
    let reach = used_index-reached (g.M.Mem.told c.args.mem.now) (g.M.Mem.span c.args.mem.now) c.self.inside.place (g.met.M.Mem.told_ends c.args.mem.now) (g.met.M.Mem.span_ends c.args.mem.now) ring.device in
    let ok = number-loaded (g.M.Mem.told c.load.new.self) (g.M.Mem.span c.load.new.self) _ _ (Err c.in_err-load16.field-0.0) c.used_index.ensures c.in_err-load16.ensures.loads c.in_err-load16.ensures.spanned
    (reached_still c.in_ok-load.ensures.memory _ 2 reach) in
    absurd (cc)
