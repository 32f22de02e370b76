use Rattle.std.proofs.Common.{◌≡◌, ℕ, ap, sym, subst}
use Rattle.vd_model.specs.declared.queue.RingPlace.{RingPlace}
use Rattle.vr_split.specs.Reach.{Reaches, RingInReach}
use Rattle.vr_split.specs.ReachLemmas.{reached_still, used_index-reached, used_element-reached}
use Rattle.vr_driver.specs.Side.{DriverSide}
use Rattle.vr_driver.proofs.ring.DriverRing.completion.Goals as goal

pub load16_in_reach-used-requires : goal.load16_in_reach-used-requires
load16_in_reach-used-requires g c =
    let place : c.self.inside.place ≡ c.args.self.now.place = ap (λ (s : DriverSide). s.place) c.self.view_is in
    let ring = subst (λ (p : RingPlace). RingInReach (g.M.Mem.told c.args.mem.now) (g.M.Mem.span c.args.mem.now) p) (sym place) c.requires in
    subst (λ (a : ℕ). Reaches (g.M.Mem.told c.args.mem.now) (g.M.Mem.span c.args.mem.now) a 2) (sym c.used_index.ensures) (used_index-reached (g.M.Mem.told c.args.mem.now) (g.M.Mem.span c.args.mem.now) c.self.inside.place (g.met.M.Mem.told_ends c.args.mem.now) (g.met.M.Mem.span_ends c.args.mem.now) ring.device)

pub load_in_reach-requires : goal.load_in_reach-requires
load_in_reach-requires g c =
    let place : c.self.inside.place ≡ c.args.self.now.place = ap (λ (s : DriverSide). s.place) c.self.view_is in
    let ring = subst (λ (p : RingPlace). RingInReach (g.M.Mem.told c.args.mem.now) (g.M.Mem.span c.args.mem.now) p) (sym place) c.requires in
    subst (λ (a : ℕ). Reaches (g.M.Mem.told c.load16_in_reach-used.new.mem) (g.M.Mem.span c.load16_in_reach-used.new.mem) a 8) (sym c.used_element.ensures) (reached_still c.load16_in_reach-used.ensures.memory _ 8 (used_element-reached (g.M.Mem.told c.args.mem.now) (g.M.Mem.span c.args.mem.now) c.self.inside.place (g.met.M.Mem.told_ends c.args.mem.now) (g.met.M.Mem.span_ends c.args.mem.now) c.self.invariant.3 c.self.inside.reclaimed ring.device))
