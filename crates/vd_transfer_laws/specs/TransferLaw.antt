-- Bytes that go over a mapping in one direction go as they would without copies.
use Rattle.std.specs.Prelude.{ℕ, ◌+◌, ◌<◌, List, [], ◌∷◌, ◌++◌, length, false, IsTrue, ◌==◌, ◌&&◌, Some, None, ◌≡◌, ◌⊎◌}
use Rattle.vd_num.specs.Number.{is_within}
use Rattle.vd_model.specs.Setting.{Setting}
use Rattle.vd_model.specs.Acts.{Act, NodeAct, Streaming, Node, Driver, Mapped, Unmapped, Poked, Synced_device}
use Rattle.vd_model.specs.Live.{live_mappings, iova_of}
use Rattle.vd_model.specs.Puts.{is_to_device, is_from_device, ram, shown_put}
use Rattle.vd_model.specs.Direct.{daemon_writes, mapping_through, direct_byte, is_marked, Known}
use Rattle.vd_model.specs.History.{History}
use Rattle.vd_laws.specs.Among.{Among}
use Rattle.vd_laws.specs.Runs.{IsMoment, IsAddressed}

-- the driver's act neither pokes the byte that byte i of the mapping stands for, nor syncs the mapping to the device
abbrev pub IsLeft : Act → Streaming → ℕ → Type 0
IsLeft (Driver (Poked buffer at bytes)) m i = ((m.want.buffer == buffer) && is_within at (length bytes) (m.want.offset + i)) ≡ false
IsLeft (Driver (Synced_device n)) m i = (n.number == m.number) ≡ false
IsLeft _ m i = Unit {0}

-- a daemon's act writes the byte through no mapping, nor at the mapping's own address
pub record IsUnwritten (acts : List Act) (act : NodeAct) (m : Streaming) (i : ℕ) : Type 0 where
  pub through_none : mapping_through acts (Node act) m.want.buffer (m.want.offset + i) ≡ None
  pub absent : daemon_writes acts (Node act) (iova_of m + i) ≡ None

-- or it writes it through this mapping
abbrev pub IsWrittenThrough : List Act → NodeAct → Streaming → ℕ → Type 0
IsWrittenThrough acts act m i = (l : Streaming) × (mapping_through acts (Node act) m.want.buffer (m.want.offset + i) ≡ Some l) × (l.number ≡ m.number)

-- the act leaves byte i of the mapping as it was handed
abbrev pub IsUntouched : List Act → Act → Streaming → ℕ → Type 0
IsUntouched acts (Node act) m i = IsUnwritten acts act m i
IsUntouched acts act m i = IsLeft act m i

-- the act writes byte i of the mapping through no other one
abbrev pub IsKept : List Act → Act → Streaming → ℕ → Type 0
IsKept acts (Node act) m i = IsUnwritten acts act m i ⊎ IsWrittenThrough acts act m i
IsKept acts act m i = IsLeft act m i

-- so do all acts of some later ones
abbrev pub AreAll : (List Act → Act → Streaming → ℕ → Type 0) → List Act → List Act → Streaming → ℕ → Type 0
AreAll P [] base m i = Unit {0}
AreAll P (act ∷ later) base m i = P (later ++ base) act m i × AreAll P later base m i

-- at each moment of a history, on each device
pub record TransferLaw (x : Setting) (h : History) : Type 0 where
  -- a mapping that goes to the device and isn't synced again shows the driver's byte of the time of its map, if the driver had its value then, and since
  -- then neither poked it, nor did a daemon write it through this mapping or another one
  pub shows : IsAddressed x → (d : List ℕ) (m : Streaming) (later acts : List Act) → IsMoment x h d (later ++ Driver (Mapped m) ∷ acts) → Among m (live_mappings (later ++ Driver (Mapped m) ∷ acts))
      → IsTrue (is_to_device m.want.dir) → (i : ℕ) → i < m.want.len → IsTrue (is_marked acts (Known m.want.buffer (m.want.offset + i))) → AreAll IsUntouched later (Driver (Mapped m) ∷ acts) m i
      → (shown_put x.per_page (later ++ Driver (Mapped m) ∷ acts) (iova_of m + i)).byte ≡ ram x.per_page acts m.want.buffer (m.want.offset + i)
  -- a mapping that comes from the device gives a direct transfer of each byte that a daemon stored through it, if since then the byte was neither poked nor
  -- written through another one: after its unmap the buffer has the value of the machine without copies
  pub gives : IsAddressed x → (d : List ℕ) (m : Streaming) (later : List Act) (act : NodeAct) (acts : List Act) → IsMoment x h d (Driver (Unmapped m) ∷ later ++ Node act ∷ acts)
      → Among m (live_mappings acts) → IsTrue (is_from_device m.want.dir) → (i : ℕ) → i < m.want.len → IsWrittenThrough acts act m i → AreAll IsKept later (Node act ∷ acts) m i
      → ram x.per_page (Driver (Unmapped m) ∷ later ++ Node act ∷ acts) m.want.buffer (m.want.offset + i) ≡ direct_byte (later ++ Node act ∷ acts) m.want.buffer (m.want.offset + i)
