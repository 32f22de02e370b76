-- The contents of a disk's sectors.
use Rattle.std.specs.Prelude.{ℕ, zero, suc, ◌<◌, ◌≡◌, ◌⊎◌, ◌==◌, if◌then◌else◌, List, [], ◌∷◌, ◌++◌, length}

-- the content is among these
abbrev pub Has : List ℕ → List (List ℕ) → Type 0
Has content [] = ⊥
Has content (first ∷ rest) = (content ≡ first) ⊎ Has content rest

-- each of a disk's sectors has 512 bytes
abbrev pub AreWhole : ℕ → (ℕ → List ℕ) → Type 0
AreWhole sectors contents = (s : ℕ) → s < sectors → length (contents s) ≡ 512

-- the contents of so many sectors from this one on, one after another
abbrev pub joined : (ℕ → List ℕ) → ℕ → ℕ → List ℕ
joined contents sector zero = []
joined contents sector (suc count) = contents sector ++ joined contents (suc sector) count

-- the contents with these bytes in one sector
abbrev pub with_content : ℕ → List ℕ → (ℕ → List ℕ) → ℕ → List ℕ
with_content sector bytes contents s = if s == sector then bytes else contents s

-- a write of the sector leaves in it the new bytes or the old ones
abbrev pub IsEither : ℕ → List ℕ → (ℕ → List ℕ) → (ℕ → List ℕ) → Type 0
IsEither sector bytes old new = (new sector ≡ bytes) ⊎ (new sector ≡ old sector)
