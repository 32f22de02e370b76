-- What contracts see of a reader of lines.
use Rattle.std.specs.Prelude.{ℕ, ◌+◌, ◌<◌, ◌≤◌, ◌≡◌, ◌≢◌, List, [], ◌++◌, length, slice_index, Option, Some, None, Result, Ok, Err}
use Rattle.vd_lines.specs.declared.reader.ReadFault.{ReadFault}
use Rattle.vd_lines.specs.declared.reader.ReadFault.TheVariants.{Failed, TooLong, Memory}

-- the line that was read last, what was read ahead, and how many bytes were taken from the source
pub record Ahead : Type 0 where
  pub line : List ℕ
  pub pending : List ℕ
  pub taken : ℕ

-- no byte of it is an LF
abbrev pub IsOneLine : List ℕ → Type 0
IsOneLine bytes = (k : ℕ) → k < length bytes → slice_index bytes k ≢ 10

-- none of the bytes from i up to j is an LF
abbrev pub HasNoneBetween : List ℕ → ℕ → ℕ → Type 0
HasNoneBetween bytes i j = (k : ℕ) → i ≤ k → k < j → slice_index bytes k ≢ 10

-- n bytes more were taken from what is left
abbrev pub IsFilledBy : ℕ → Ahead → Ahead → Option (List ℕ) → Option (List ℕ) → Type 0
IsFilledBy n old new None left = Unit {0}
IsFilledBy n old new (Some told) left =
    (piece : List ℕ) × (rest : List ℕ) × (piece ++ rest ≡ told) × (left ≡ Some rest) × (new.pending ≡ old.pending ++ piece) × (length piece ≡ n) × (n ≡ 0 → told ≡ [])

-- at a fault nothing was taken, but the first byte past the limit
abbrev pub IsPast : Ahead → Option (List ℕ) → Type 0
IsPast old None = Unit {0}
IsPast old (Some told) = 67108864 < old.taken + length told

abbrev pub IsFilled : Ahead → Ahead → Option (List ℕ) → Option (List ℕ) → Result ℕ ReadFault → Type 0
IsFilled old new told left (Ok n) = IsFilledBy n old new told left × (new.taken ≡ old.taken + n) × (new.taken ≤ 67108864) × (length new.pending ≡ length old.pending + n)
IsFilled old new told left (Err Failed) = (left ≡ told) × (new.pending ≡ old.pending)
IsFilled old new told left (Err TooLong) = (old.taken ≡ 67108864) × IsPast old told
IsFilled old new told left (Err Memory) = Unit {0}
