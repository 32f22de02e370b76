-- Files of bytes, read and written at any place, where they tell their bytes and syncs.
use Rattle.std.specs.Prelude.{ℕ, ◌+◌, ◌≡◌, List, ◌++◌, length, take, drop, Option, Some, None}

-- a told file has so many bytes
abbrev pub HasSize : Option (List ℕ) → ℕ → Type 0
HasSize None size = Unit {0}
HasSize (Some content) size = size ≡ length content

-- the bytes are those of a told file from a place on
abbrev pub IsReadAt : ℕ → List ℕ → Option (List ℕ) → Type 0
IsReadAt start bytes None = Unit {0}
IsReadAt start bytes (Some content) = bytes ≡ take (length bytes) (drop start content)

-- a told file has the bytes in place of those from a place on
abbrev pub IsWrittenAt : ℕ → List ℕ → Option (List ℕ) → Option (List ℕ) → Type 0
IsWrittenAt start bytes None new = new ≡ None
IsWrittenAt start bytes (Some content) new = new ≡ Some (take start content ++ bytes ++ drop (start + length bytes) content)

-- a file that tells its syncs was synced once more
abbrev pub IsSyncedOnce : Option ℕ → Option ℕ → Type 0
IsSyncedOnce None new = new ≡ None
IsSyncedOnce (Some count) new = new ≡ Some (count + 1)

-- no content is told
abbrev pub untold : Option (List ℕ)
untold = None
