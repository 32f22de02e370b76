use Rattle.std.proofs.Common.{◌≡◌, ℕ, ap, sym, subst, ◌∙◌}
use Rattle.vd_model.specs.declared.queue.RingPlace.{RingPlace}
use Rattle.vr_split.specs.Reach.{Reaches, RingInReach}
use Rattle.vr_split.specs.ReachLemmas.{ring_still, available_slot-reached}
use Rattle.vr_driver.specs.Side.{DriverSide}
use Rattle.vr_driver.proofs.ring.DriverRing.add.Goals as goal

pub store16_in_reach-requires : goal.store16_in_reach-requires
store16_in_reach-requires g c =
    let place : c.self-2.inside.place ≡ c.args.self.now.place = ap (λ (s : DriverSide). s.place) (c.self-2.view_is ∙ c.place_chain-head.ensures.side) in
    let still = ring_still c.place_chain-head.ensures.memory c.args.self.now.place c.requires.in_reach in
    let ring = subst (λ (p : RingPlace). RingInReach (g.M.Mem.told c.place_chain-head.new.mem) (g.M.Mem.span c.place_chain-head.new.mem) p) (sym place) still in
    subst (λ (a : ℕ). Reaches (g.M.Mem.told c.place_chain-head.new.mem) (g.M.Mem.span c.place_chain-head.new.mem) a 2) (sym c.available_slot.ensures)
    (available_slot-reached (g.M.Mem.told c.place_chain-head.new.mem) (g.M.Mem.span c.place_chain-head.new.mem) c.self-2.inside.place (g.met.M.Mem.told_ends c.place_chain-head.new.mem) (g.met.M.Mem.span_ends c.place_chain-head.new.mem) c.self-2.invariant.3 c.self-2.inside.added ring.driver)
