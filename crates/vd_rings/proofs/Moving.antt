-- A kept ring whose driver's side changes.
use Rattle.std.proofs.Common.{◌≡◌, ℕ, ◌+◌, ◌<◌, ◌≤◌, true, sym, subst, List}
use Rattle.vd_model.specs.declared.queue.RingPlace.{RingPlace}
use Rattle.vd_model.specs.Acts.{Act}
use Rattle.vd_model.specs.Rings.{IsRingSize}
use Rattle.vd_model.specs.RingTurns.{ring_at, ring_bytes}
use Rattle.vr_driver.specs.Side.{DriverSide}
use Rattle.vd_rings.specs.declared.held.HeldRing.{HeldRing}
use Rattle.vd_rings.specs.Stands.{is_in_region, RingLies}

-- a ring lies where its place does
pub lies_as : (acts : List Act) (held : HeldRing) (s : DriverSide) → s.place ≡ held.ring.place → RingLies acts held → RingLies acts (record held { ring = s })
lies_as acts held s e l = record {
  slot = l.slot;
  size = subst (λ (p : RingPlace). IsRingSize p.size) (sym e) l.size;
  place = subst (λ (p : RingPlace). p ≡ ring_at p.size l.slot) (sym e) l.place;
  bytes = subst (λ (p : RingPlace). (a : ℕ) → p.desc ≤ a → a < p.desc + ring_bytes p.size → is_in_region acts held.region a ≡ true) (sym e) l.bytes;
  number = l.number;
}
