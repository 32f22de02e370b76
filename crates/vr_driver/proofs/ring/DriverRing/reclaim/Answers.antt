use Rattle.std.proofs.Common.{◌≡◌, ℕ, ap, sym, subst}
use Rattle.vd_model.specs.declared.queue.RingPlace.{RingPlace}
use Rattle.vr_split.specs.Reach.{Reaches, RingInReach}
use Rattle.vr_split.specs.ReachLemmas.{reached_still, used_event-reached}
use Rattle.vr_driver.specs.Side.{DriverSide}
use Rattle.vr_driver.proofs.ring.DriverRing.reclaim.Goals as goal

pub store16_in_reach-requires : goal.store16_in_reach-requires
store16_in_reach-requires g c =
    let place : c.self.inside.place ≡ c.args.self.now.place = ap (λ (s : DriverSide). s.place) c.self.view_is in
    let ring = subst (λ (p : RingPlace). RingInReach (g.M.Mem.told c.args.mem.now) (g.M.Mem.span c.args.mem.now) p) (sym place) c.requires in
    subst (λ (a : ℕ). Reaches (g.M.Mem.told c.completion.new.mem) (g.M.Mem.span c.completion.new.mem) a 2) (sym c.used_event.ensures) (reached_still c.completion.ensures.memory _ 2 (used_event-reached (g.M.Mem.told c.args.mem.now) (g.M.Mem.span c.args.mem.now) c.self.inside.place (g.met.M.Mem.told_ends c.args.mem.now) (g.met.M.Mem.span_ends c.args.mem.now) ring.driver))
