-- Regions in the order of their addresses.
use Rattle.std.specs.Prelude.{ℕ, ◌+◌, ◌≤◌, ◌≡◌, List, [], ◌∷◌, nat_lt, if◌then◌else◌}
use Rattle.vd_model.specs.declared.memory.Region.{Region}

-- the regions with one more, before the first that starts above it
abbrev pub with_region : Region → List Region → List Region
with_region region [] = region ∷ []
with_region region (r ∷ rs) = if nat_lt region.start r.start then region ∷ r ∷ rs else r ∷ with_region region rs

-- each entry has the start of its region as its key, and each region starts at `low` or above and past the one before
abbrev pub IsFrom : ℕ → List (ℕ × Region) → Type 0
IsFrom low [] = Unit {0}
IsFrom low (e ∷ es) = (low ≤ e.0) × (e.0 ≡ e.1.start) × (e.1.start ≤ e.1.last) × IsFrom (e.1.last + 1) es
