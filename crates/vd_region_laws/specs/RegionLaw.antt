-- Coherent regions: where they lie, and what a driver puts there.
use Rattle.std.specs.Prelude.{ℕ, ◌+◌, ◌<◌, ◌≤◌, List, [], ◌∷◌, length, false, IsTrue, Some, ◌≡◌}
use Rattle.vd_num.specs.Number.{pages_of, is_within}
use Rattle.vd_model.specs.Setting.{Setting}
use Rattle.vd_model.specs.Acts.{Act, Streaming, Coherent, Driver, Driver_put}
use Rattle.vd_model.specs.Live.{live_mappings, live_regions, region_covers}
use Rattle.vd_model.specs.Place.{region_slots, meets}
use Rattle.vd_model.specs.Queues.{Ring, ring_of}
use Rattle.vd_model.specs.RingTurns.{ring_at, ring_bytes}
use Rattle.vd_model.specs.History.{History}
use Rattle.vd_laws.specs.Among.{Among}
use Rattle.vd_laws.specs.Runs.{acts_of, IsMoment, IsAddressed}

-- the numbers of some regions ascend, so that no two are the same
abbrev pub AreAscending : List Coherent → Type 0
AreAscending [] = Unit {0}
AreAscending (r ∷ rs) = ((s : Coherent) → Among s rs → r.number < s.number) × AreAscending rs

-- a region lies past bounce memory and within a device's memory, and has a byte
pub record IsBeyond (x : Setting) (r : Coherent) : Type 0 where
  pub low : x.bounce ≤ r.slot
  pub high : r.slot + pages_of r.len ≤ x.iova
  pub some : 0 < r.len

-- one of the regions covers each address of the bytes from `at` on
pub record IsInside (regions : List Coherent) (at : ℕ) (bytes : List ℕ) : Type 0 where
  pub region : Coherent
  pub live : Among region regions
  pub covers : (a : ℕ) → IsTrue (is_within at (length bytes) a) → IsTrue (region_covers region a)

-- one of the regions was made for the ring, which stands at its start
pub record IsHoused (regions : List Coherent) (ring : Ring) : Type 0 where
  pub region : Coherent
  pub live : Among region regions
  pub number : region.number ≡ ring.region
  pub len : region.len ≡ ring_bytes ring.place.size
  pub place : ring.place ≡ ring_at ring.place.size region.slot

-- at each moment of a history, on each device
pub record RegionLaw (x : Setting) (h : History) : Type 0 where
  -- live regions have different numbers, and stand in their order
  pub numbers : (d : List ℕ) (acts : List Act) → IsMoment x h d acts → AreAscending (live_regions acts)
  -- an address lies in one live region at most
  pub disjoint : (d : List ℕ) (acts : List Act) → IsMoment x h d acts → (r s : Coherent) → Among r (live_regions acts) → Among s (live_regions acts)
      → (a : ℕ) → IsTrue (region_covers r a) → IsTrue (region_covers s a) → r ≡ s
  -- a live region lies past bounce memory and within the device's memory, and isn't empty
  pub beyond : (d : List ℕ) (acts : List Act) → IsMoment x h d acts → (r : Coherent) → Among r (live_regions acts) → IsBeyond x r
  -- a live mapping and a live region have no slot in common
  pub apart_from_mappings : (d : List ℕ) (acts : List Act) → IsMoment x h d acts → (m : Streaming) → Among m (live_mappings acts)
      → (r : Coherent) → Among r (live_regions acts) → meets m.slot (pages_of m.want.len) (region_slots r) ≡ false
  -- each put of the driver was made while a live region covered all of its addresses; a ring's are taken modulo 2 to the 64th, so they must have 64 bits
  pub puts_inside : IsAddressed x → (d : List ℕ) (at : ℕ) (bytes : List ℕ) (acts : List Act) → IsMoment x h d (Driver (Driver_put at bytes) ∷ acts)
      → IsInside (live_regions acts) at bytes
  -- after each line each ring stands in a live region that was made for it
  pub rings_housed : (d : List ℕ) (q : ℕ) (ring : Ring) → ring_of (acts_of x h d) q ≡ Some ring → IsHoused (live_regions (acts_of x h d)) ring
  -- and no two of a device's queues have theirs in the same one
  pub rings_apart : (d : List ℕ) (q k : ℕ) (ring other : Ring) → ring_of (acts_of x h d) q ≡ Some ring → ring_of (acts_of x h d) k ≡ Some other
      → ring.region ≡ other.region → q ≡ k
