-- What contracts see of values that are numbered in the order in which they were made.
use Rattle.std.specs.Prelude.{ℕ, ◌+◌, ◌<◌, ◌≤◌, List, [], ◌∷◌}

-- the values that are there with their numbers, the oldest first, and how many were made
pub record Numbered (T : Type 0) : Type 0 where
  pub entries : List (ℕ × T)
  pub made : ℕ

-- the numbers ascend from `low` on and are below `high`
abbrev pub IsRising : {T : Type 0} → ℕ → ℕ → List (ℕ × T) → Type 0
IsRising low high [] = low ≤ high
IsRising low high (e ∷ es) = (low ≤ e.0) × (e.0 < high) × IsRising (e.0 + 1) high es
