-- What a crash may leave of a disk's sectors, at one moment and at each moment of a stretch.
use Rattle.std.specs.Prelude.{ℕ, ◌≡◌, ◌≢◌, ◌⊎◌, List, [], ◌∷◌}
use Rattle.blk_disk.specs.Contents.{Has}

-- each content of a sector's list is in the list that the map has for that sector
abbrev pub Lie : (ℕ → List (List ℕ)) → (ℕ → List (List ℕ)) → Type 0
Lie map lists = (s : ℕ) (content : List ℕ) → Has content (lists s) → Has content (map s)

-- after a write of these bytes: in the sector's list at most what it had and the bytes, and no other list changed
pub record IsListedWrite (sector : ℕ) (bytes : List ℕ) (old new : ℕ → List (List ℕ)) : Type 0 where
  pub own : (content : List ℕ) → Has content (new sector) → (content ≡ bytes) ⊎ Has content (old sector)
  pub others : (s : ℕ) → s ≢ sector → new s ≡ old s

-- each list is the present content alone
abbrev pub AreSingle : (ℕ → List ℕ) → (ℕ → List (List ℕ)) → Type 0
AreSingle contents lists = (s : ℕ) → lists s ≡ contents s ∷ []
