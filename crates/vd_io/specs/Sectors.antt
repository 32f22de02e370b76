-- Reads and writes of whole sectors of 512 bytes.
use Rattle.std.specs.Prelude.{ℕ, ◌+◌, ◌*◌, ◌%◌, ◌≤◌, ◌≡◌, List, ◌++◌, length, take, drop, Option, Some, None}

-- whole sectors from this one on, within an image of so many, of at most 16,777,216 bytes
pub record IsSpan (sectors sector len : ℕ) : Type 0 where
  pub whole : len % 512 ≡ 0
  pub short : len ≤ 16777216
  pub inside : 512 * sector + len ≤ 512 * sectors

-- the bytes are the content's from the sector on
abbrev pub IsRead : ℕ → List ℕ → Option (List ℕ) → Type 0
IsRead sector bytes None = Unit {0}
IsRead sector bytes (Some content) = bytes ≡ take (length bytes) (drop (512 * sector) content)

-- the content with the bytes in place of those from the sector on
abbrev pub with_sectors : ℕ → List ℕ → List ℕ → List ℕ
with_sectors sector bytes content = take (512 * sector) content ++ bytes ++ drop (512 * sector + length bytes) content

-- a told content has the bytes in place of those from the sector on
abbrev pub IsWritten : ℕ → List ℕ → Option (List ℕ) → Option (List ℕ) → Type 0
IsWritten sector bytes None new = new ≡ None
IsWritten sector bytes (Some content) new = new ≡ Some (with_sectors sector bytes content)
