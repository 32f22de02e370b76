-- What contracts see of an address space: its ends, and how many slots were taken at each start.
use Rattle.std.specs.Prelude.{ℕ, zero, suc, ◌+◌, ◌*◌, ◌<◌, ◌≤◌, ◌≡◌, List, [], ◌∷◌, length, Bool, true, slice_index}
use Rattle.std.specs.List.{list_any}
use Rattle.vd_num.specs.Number.{is_within}
use Rattle.vd_model.specs.Place.{Slots}
use Rattle.vd_iova.specs.Bits.{bit, IsSummary, IsOutside}

-- how many slots were taken at each start and not given back, and the slots first to end - 1
pub record Space : Type 0 where
  pub counts : List ℕ
  pub first : ℕ
  pub end : ℕ

-- the ranges of a row of counts, where the first count is at this start
abbrev pub ranges_from : ℕ → List ℕ → List Slots
ranges_from start [] = []
ranges_from start (zero ∷ counts) = ranges_from (suc start) counts
ranges_from start (suc n ∷ counts) = record { start = start; count = suc n } ∷ ranges_from (suc start) counts

-- the ranges that were taken and not given back
unfoldable pub taken_of : Space → List Slots
taken_of s = ranges_from 0 s.counts

-- how many slots were taken at this start, and zero where none were
abbrev pub taken_at : Space → ℕ → ℕ
taken_at s start = slice_index s.counts start

-- a range that was taken covers the slot
unfoldable pub is_covered : List ℕ → ℕ → Bool
is_covered counts p = list_any (λ (range : Slots). is_within range.start range.count p) (ranges_from 0 counts)

-- what is true of each: a bit is set where a range covers it and outside, and no two ranges overlap
pub record IsSound (words full : List ℕ) (s : Space) : Type 0 where
  pub small : s.end ≤ 65536
  pub some : s.first < s.end
  pub counts : length s.counts ≡ s.end
  pub room : s.end ≤ 64 * length words
  pub most : length words ≤ 1024
  pub ends : (q : ℕ) → 0 < slice_index s.counts q → (s.first ≤ q) × (q + slice_index s.counts q ≤ s.end)
  pub apart : (q r p : ℕ) → is_within q (slice_index s.counts q) p ≡ true → is_within r (slice_index s.counts r) p ≡ true → q ≡ r
  pub filled : (q p : ℕ) → is_within q (slice_index s.counts q) p ≡ true → bit words p ≡ 1
  pub covered : (p : ℕ) → s.first ≤ p → p < s.end → bit words p ≡ 1 → is_covered s.counts p ≡ true
  pub outside : IsOutside words s.first s.end
  pub summary : IsSummary words full
