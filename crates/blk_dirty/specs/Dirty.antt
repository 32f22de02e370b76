-- What contracts see of the dirty sectors: the bytes of each, and how many they are.
use Rattle.std.specs.Prelude.{ℕ, zero, suc, ◌+◌, ◌-◌, ◌*◌, ◌/◌, ◌<◌, ◌≤◌, ◌≡◌, ◌==◌, if◌then◌else◌, List, length, take, drop, Option, Some, None, is_some, slice_index_or}
use Rattle.std.specs.Option.{unwrap_or}
use Rattle.vd_num.specs.Number.{is_within}

-- the bytes of each sector, if it is dirty; how many are, and how many may be
pub record DirtyLines : Type 0 where
  pub lines : List (Option (List ℕ))
  pub len : ℕ
  pub room : ℕ

-- the bytes of a sector, if it is dirty
unfoldable pub bytes_at : DirtyLines → ℕ → Option (List ℕ)
bytes_at d s = slice_index_or d.lines s None

-- 1 where the sector is dirty
abbrev pub mark : Option (List ℕ) → ℕ
mark bytes = if is_some bytes then 1 else 0

-- how many of the first n sectors are dirty
abbrev pub marked : (ℕ → Option (List ℕ)) → ℕ → ℕ
marked dirty zero = 0
marked dirty (suc n) = marked dirty n + mark (dirty n)

-- how many of so many sectors from this one on aren't dirty
abbrev pub clean : (ℕ → Option (List ℕ)) → ℕ → ℕ → ℕ
clean dirty first zero = 0
clean dirty first (suc count) = clean dirty first count + (1 - mark (dirty (first + count)))

-- each dirty sector has 512 bytes
abbrev pub AreLines : (ℕ → Option (List ℕ)) → Type 0
AreLines dirty = (s : ℕ) (bytes : List ℕ) → dirty s ≡ Some bytes → length bytes ≡ 512

-- with these bytes at the sector, or with the sector clean
abbrev pub with_bytes : ℕ → Option (List ℕ) → (ℕ → Option (List ℕ)) → ℕ → Option (List ℕ)
with_bytes sector bytes dirty s = if s == sector then bytes else dirty s

-- the sector at its place in bytes that begin with another sector
abbrev pub piece : ℕ → List ℕ → ℕ → List ℕ
piece first bytes s = take 512 (drop (512 * (s - first)) bytes)

-- so many sectors from the first one on with their pieces of the bytes
abbrev pub with_pieces : ℕ → ℕ → List ℕ → (ℕ → Option (List ℕ)) → ℕ → Option (List ℕ)
with_pieces first count bytes dirty s = if is_within first count s then Some (piece first bytes s) else dirty s

-- a sector's dirty bytes, else its content below
abbrev pub over : (ℕ → Option (List ℕ)) → (ℕ → List ℕ) → ℕ → List ℕ
over dirty contents s = unwrap_or (dirty s) (contents s)

-- what is true of each: the count is that of the dirty sectors, and lines for the others are spare
pub record IsSound (d : DirtyLines) (spare most : ℕ) : Type 0 where
  pub count : d.len ≡ marked (bytes_at d) (length d.lines)
  pub rest : spare + d.len ≡ d.room
  pub capacity : d.room ≤ most
  pub whole : AreLines (bytes_at d)
