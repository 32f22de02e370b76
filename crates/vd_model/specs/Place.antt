-- Where a mapping or a coherent region is placed: the greatest aligned start.
use Rattle.std.specs.Prelude.{ℕ, zero, suc, ◌+◌, ◌%◌, List, [], ◌∷◌, ◌++◌, Bool, ◌==◌, nat_lt, nat_le, ◌&&◌, not, if◌then◌else◌, Option, Some, None, map}
use Rattle.std.specs.List.{list_any}
use Rattle.vd_num.specs.Number.{pages_of, power_from}
use Rattle.vd_model.specs.Acts.{Act, Streaming, Coherent}
use Rattle.vd_model.specs.Live.{live_mappings, live_regions}

-- a range of slots: its first, and how many
pub record Slots : Type 0 where
  pub start : ℕ
  pub count : ℕ

-- the greatest number below this one that passes
unfoldable pub greatest : (ℕ → Bool) → ℕ → Option ℕ
greatest passes zero = None
greatest passes (suc n) = if passes n then Some n else greatest passes n

-- the range and the n slots from start on have one in common
abbrev pub meets : ℕ → ℕ → Slots → Bool
meets start n r = nat_lt start (r.start + r.count) && nat_lt r.start (start + n)

-- n slots may be taken from start on: it is aligned, they lie from lo to hi - 1, and none of them is taken
abbrev pub is_place : List Slots → ℕ → ℕ → ℕ → ℕ → Bool
is_place taken n lo hi start =
    ((start % power_from n) == 0) && nat_le lo start && nat_le (start + n) hi && not (list_any (meets start n) taken)

-- the greatest place for n slots from lo to hi - 1, if there is one
unfoldable pub place_of : List Slots → ℕ → ℕ → ℕ → Option ℕ
place_of taken n lo hi = greatest (is_place taken n lo hi) hi

-- the slots of a mapping, and of a region
abbrev pub mapping_slots : Streaming → Slots
mapping_slots m = record { start = m.slot; count = pages_of m.want.len }

abbrev pub region_slots : Coherent → Slots
region_slots r = record { start = r.slot; count = pages_of r.len }

-- the slots that are taken after some acts
abbrev pub taken_slots : List Act → List Slots
taken_slots acts = map mapping_slots (live_mappings acts) ++ map region_slots (live_regions acts)
