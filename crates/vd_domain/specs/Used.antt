-- Which pages are in use, by how many mappings meet them.
use Rattle.std.specs.Prelude.{ℕ, ◌≡◌, List, Bool, length, nat_lt, slice_index, slice_index_or, false}

-- a page is in use where its count isn't 0
pub record AreFlags (counts : List ℕ) (flags : List Bool) : Type 0 where
  pub len : length flags ≡ length counts
  pub each : (p : ℕ) → slice_index_or flags p false ≡ nat_lt 0 (slice_index counts p)
