-- A ring that is kept lies in its live coherent region.
use Rattle.std.specs.Prelude.{ℕ, ◌≡◌, ◌+◌, ◌<◌, ◌≤◌, ◌==◌, ◌&&◌, not, List, Bool, true, false, Option, Some}
use Rattle.std.specs.List.{list_any}
use Rattle.vd_model.specs.Acts.{Act, Driver, Region_freed}
use Rattle.vd_model.specs.Live.{live_regions, regions, region_covers}
use Rattle.vd_model.specs.Rings.{IsRingSize}
use Rattle.vd_model.specs.RingTurns.{ring_at, ring_bytes}
use Rattle.vd_queue_sides.specs.Chains.{is_ring_act}
use Rattle.vd_rings.specs.declared.held.HeldRing.{HeldRing}

-- the address lies in the live coherent region of a number
abbrev pub is_in_region : List Act → ℕ → ℕ → Bool
is_in_region acts region a = list_any (λ r. (r.number == region) && region_covers r a) (live_regions acts)

-- the ring is laid out from a slot on, and all of it lies in its live region, which is one of those that were made
pub record RingLies (acts : List Act) (held : HeldRing) : Type 0 where
  pub slot : ℕ
  pub size : IsRingSize held.ring.place.size
  pub place : held.ring.place ≡ ring_at held.ring.place.size slot
  pub bytes : (a : ℕ) → held.ring.place.desc ≤ a → a < held.ring.place.desc + ring_bytes held.ring.place.size → is_in_region acts held.region a ≡ true
  pub number : held.region < regions acts

-- ---- acts that leave it alone

-- the act frees the region of a ring that is kept
abbrev pub frees : Option HeldRing → Act → Bool
frees (Some held) (Driver (Region_freed r)) = r.number == held.region
frees _ _ = false

-- it is none on the queue's ring, and frees no region of it
abbrev pub leaves_ring : ℕ → Option HeldRing → Act → Bool
leaves_ring q kept act = not (is_ring_act q act) && not (frees kept act)
