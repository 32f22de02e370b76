-- What a disk in memory holds: its bytes, and the older contents that a crash may bring back.
use Rattle.std.specs.Prelude.{ℕ, ◌*◌, ◌==◌, not, if◌then◌else◌, nat_lt, List, [], ◌∷◌, ◌++◌, length, take, drop, filter}
use Rattle.vd_io.specs.Sectors.{with_sectors}
use Rattle.blk_memory_disk.specs.declared.store.Older.{Older}

-- its sectors and their bytes, the older contents beside them, and how many of those it keeps
pub record Stored : Type 0 where
  pub sectors : ℕ
  pub bytes : List ℕ
  pub older : List Older
  pub room : ℕ

-- the present content of a sector
abbrev pub content_at : List ℕ → ℕ → List ℕ
content_at bytes s = take 512 (drop (512 * s) bytes)

-- the older contents of a sector
abbrev pub older_at : List Older → ℕ → List (List ℕ)
older_at [] s = []
older_at (o ∷ rest) s = if o.sector == s then o.bytes ∷ older_at rest s else older_at rest s

-- the contents of a sector that a crash may leave: the present one first
abbrev pub list_at : Stored → ℕ → List (List ℕ)
list_at d s = content_at d.bytes s ∷ older_at d.older s

-- the older contents with one more, or where there is no room without those of its sector
abbrev pub kept_older : ℕ → Older → List Older → List Older
kept_older room o older = if nat_lt (length older) room then older ++ o ∷ [] else filter (λ p. not (p.sector == o.sector)) older

-- after a write of one sector
abbrev pub overwritten : ℕ → List ℕ → Stored → Stored
overwritten sector bytes d = record {
  sectors = d.sectors;
  bytes = with_sectors sector bytes d.bytes;
  older = kept_older d.room (record { sector = sector; bytes = content_at d.bytes sector }) d.older;
  room = d.room;
}

-- after a sync
abbrev pub settled : Stored → Stored
settled d = record { sectors = d.sectors; bytes = d.bytes; older = []; room = d.room }
