-- What a cache shows of its disk, and what a crash may leave there.
use Rattle.std.specs.Prelude.{ℕ, ◌+◌, ◌/◌, ◌<◌, ◌≤◌, ◌≡◌, Bool, true, false, if◌then◌else◌, List, [], ◌∷◌, length, Option, Some, None}
use Rattle.vd_num.specs.Number.{is_within}
use Rattle.blk_disk.specs.Contents.{Has, joined}
use Rattle.blk_disk.specs.Moments.{Lie}
use Rattle.blk_dirty.specs.Dirty.{DirtyLines, bytes_at, over, piece}

-- the newest content of each sector: the dirty bytes, else what the disk has
abbrev pub now : DirtyLines → (ℕ → List ℕ) → ℕ → List ℕ
now dirty present = over (bytes_at dirty) present

-- the bytes of all sectors, where the disk tells them
abbrev pub content_of : Bool → (ℕ → List ℕ) → ℕ → Option (List ℕ)
content_of tells newest sectors = if tells then Some (joined newest 0 sectors) else None

-- the contents that a write of so many sectors gives, else those before
abbrev pub given : ℕ → List ℕ → (ℕ → List ℕ) → ℕ → List ℕ
given first bytes before s = if is_within first (length bytes / 512) s then piece first bytes s else before s

-- each sector's list, and what the write gives that sector
abbrev pub kept_with : ℕ → List ℕ → (ℕ → List (List ℕ)) → ℕ → List (List ℕ)
kept_with first bytes kept s = if is_within first (length bytes / 512) s then piece first bytes s ∷ kept s else kept s

-- each sector's newest content alone
abbrev pub newest_alone : (ℕ → List ℕ) → ℕ → List (List ℕ)
newest_alone newest s = newest s ∷ []

-- what a crash leaves of each sector is kept, and so is its newest content
pub record Keeps (kept : ℕ → List (List ℕ)) (contents : ℕ → List ℕ) (may_leave : ℕ → List (List ℕ)) : Type 0 where
  pub crash : Lie kept may_leave
  pub newest : (s : ℕ) → Has (contents s) (kept s)

-- from one state of a disk and of the dirty sectors over it to a later one: the newest contents are the same, and where they
-- are kept, and what a crash leaves, they are so at each moment in between and in the end
pub record Moves {D : Type 0} (tells : Bool) (present : D → ℕ → List ℕ) (may_leave : D → ℕ → List (List ℕ)) (through : (ℕ → List (List ℕ)) → D → D → Type 0) (before after : D) (old new : DirtyLines) : Type 0 where
  pub newest : tells ≡ true → (s : ℕ) → now new (present after) s ≡ now old (present before) s
  pub moments : tells ≡ true → (kept : ℕ → List (List ℕ)) → Keeps kept (now old (present before)) (may_leave before) →
      through kept before after × Keeps kept (now new (present after)) (may_leave after)
