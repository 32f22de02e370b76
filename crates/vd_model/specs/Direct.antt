-- A machine without bounce memory, pages or copies: each byte of a buffer has one value, and marks tell who has it.
use Rattle.std.specs.Prelude.{ℕ, ◌+◌, ◌-◌, List, [], ◌∷◌, length, Bool, true, false, ◌==◌, nat_lt, ◌&&◌, if◌then◌else◌, filter, Option, Some, None, unwrap_or, is_some}
use Rattle.std.specs.Option.{option_and_then}
use Rattle.vd_num.specs.Number.{is_within}
use Rattle.vd_model.specs.Acts.{Act, DriverAct, Streaming, Node, Driver, Daemon_put, Area_put, Buffer, Zeroed, Poked, Mapped, Unmapped, Synced_device, Synced_cpu, Region_made, Driver_put}
use Rattle.vd_model.specs.Live.{Registration, registration_of, buffers, live_mappings, iova_of, region_covers}
use Rattle.vd_model.specs.Puts.{byte_in, is_to_device, is_from_device}

-- ---- what a daemon writes

-- bytes in the area, at an address whose cell is there
abbrev pub area_written : Option Registration → ℕ → List ℕ → ℕ → Option ℕ
area_written None at bytes a = None
area_written (Some r) at bytes a = if nat_lt a r.size then byte_in bytes at (r.base + a) else None

-- the byte that an act of a daemon writes at an address, by a store there or at its cell in the area
abbrev pub daemon_writes : List Act → Act → ℕ → Option ℕ
daemon_writes acts (Node (Daemon_put at bytes)) a = byte_in bytes at a
daemon_writes acts (Node (Area_put at bytes)) a = area_written (registration_of acts) at bytes a
daemon_writes acts _ a = None

-- the mapping brings bytes back, and byte i of buffer k is one that it maps
abbrev pub brings_back : Streaming → ℕ → ℕ → Bool
brings_back m k i = is_from_device m.want.dir && (k == m.want.buffer) && is_within m.want.offset m.want.len i

-- the address of the mapping that stands for byte i of its buffer
abbrev pub address_for : Streaming → ℕ → ℕ
address_for m i = iova_of m + (i - m.want.offset)

-- an act of a daemon writes byte i of buffer k through this mapping
abbrev pub reaches : List Act → Act → ℕ → ℕ → Streaming → Bool
reaches acts act k i m = brings_back m k i && is_some (daemon_writes acts act (address_for m i))

-- of some mappings, the one at whose greatest address byte i stands: the bytes of one write go in ascending order
abbrev pub higher : ℕ → Streaming → Option Streaming → Streaming
higher i m None = m
higher i m (Some l) = if nat_lt (address_for m i) (address_for l i) then l else m

abbrev pub highest : ℕ → List Streaming → Option Streaming
highest i [] = None
highest i (m ∷ ms) = Some (higher i m (highest i ms))

-- the live mapping through which an act of a daemon writes byte i of buffer k last
abbrev pub mapping_through : List Act → Act → ℕ → ℕ → Option Streaming
mapping_through acts act k i = highest i (filter (reaches acts act k i) (live_mappings acts))

-- ---- the value of a buffer's byte

abbrev pub direct_put : List Act → Act → ℕ → ℕ → Option ℕ
direct_put acts (Driver (Buffer bytes)) k i = if k == buffers acts then byte_in bytes 0 i else None
direct_put acts (Driver (Zeroed len)) k i = if (k == buffers acts) && nat_lt i len then Some 0 else None
direct_put acts (Driver (Poked buffer at bytes)) k i = if k == buffer then byte_in bytes at i else None
direct_put acts (Node act) k i = option_and_then (λ m. daemon_writes acts (Node act) (address_for m i)) (mapping_through acts (Node act) k i)
direct_put acts _ k i = None

-- byte i of buffer k: the last that the driver or a daemon wrote
abbrev pub direct_byte : List Act → ℕ → ℕ → ℕ
direct_byte [] k i = 0
direct_byte (act ∷ acts) k i = unwrap_or (direct_put acts act k i) (direct_byte acts k i)

-- ---- the marks

-- the driver has the value of byte i of buffer k; the device has that of the byte that byte i of a mapping stands for
pub data Mark : Type 0 where
  Known : ℕ → ℕ → Mark
  Told : Streaming → ℕ → Mark

abbrev pub mark_if : Bool → Bool → Option Bool
mark_if test mark = if test then Some mark else None

-- what an act of the driver makes of its mark: its own writes are known, and what comes back is where the device has it
abbrev pub known_put : (Mark → Bool) → List Act → DriverAct → ℕ → ℕ → Option Bool
known_put before acts (Buffer bytes) k i = if k == buffers acts then mark_if (nat_lt i (length bytes)) true else None
known_put before acts (Zeroed len) k i = mark_if ((k == buffers acts) && nat_lt i len) true
known_put before acts (Poked buffer at bytes) k i = if k == buffer then mark_if (is_within at (length bytes) i) true else None
known_put before acts (Unmapped m) k i = mark_if (brings_back m k i) (before (Told m (i - m.want.offset)))
known_put before acts (Synced_cpu m) k i = mark_if (brings_back m k i) (before (Told m (i - m.want.offset)))
known_put before acts _ k i = None

-- and of a device's mark: what is handed is told where the driver has it, and a poke isn't told
abbrev pub told_put : (Mark → Bool) → DriverAct → Streaming → ℕ → Option Bool
told_put before (Mapped n) m i = mark_if (n.number == m.number) (is_to_device n.want.dir && before (Known n.want.buffer (n.want.offset + i)))
told_put before (Synced_device n) m i = mark_if (n.number == m.number) (before (Known n.want.buffer (n.want.offset + i)))
told_put before (Poked buffer at bytes) m i = if m.want.buffer == buffer then mark_if (is_within at (length bytes) (m.want.offset + i)) false else None
told_put before _ m i = None

-- after a daemon's write through some mapping that one alone is told; a write that comes back through none isn't told
abbrev pub told_after : Option Streaming → Option ℕ → Streaming → Option Bool
told_after None byte m = mark_if (is_some byte) false
told_after (Some l) byte m = Some (l.number == m.number)

abbrev pub mark_put : (Mark → Bool) → List Act → Act → Mark → Option Bool
mark_put before acts (Driver act) (Known k i) = known_put before acts act k i
mark_put before acts (Node act) (Known k i) = mark_if (is_some (mapping_through acts (Node act) k i)) false
mark_put before acts (Driver act) (Told m i) = told_put before act m i
mark_put before acts (Node act) (Told m i) = told_after (mapping_through acts (Node act) m.want.buffer (m.want.offset + i)) (daemon_writes acts (Node act) (iova_of m + i)) m
mark_put before acts _ mark = None

-- whether a mark is yes
abbrev pub is_marked : List Act → Mark → Bool
is_marked [] mark = false
is_marked (act ∷ acts) mark = unwrap_or (mark_put (is_marked acts) acts act mark) (is_marked acts mark)

-- ---- coherent memory

-- one store: the last write of either side since the region was made, and else a zero
abbrev pub plain_store : List Act → ℕ → ℕ
plain_store [] a = 0
plain_store (Driver (Region_made r) ∷ acts) a = if region_covers r a then 0 else plain_store acts a
plain_store (Driver (Driver_put at bytes) ∷ acts) a = unwrap_or (byte_in bytes at a) (plain_store acts a)
plain_store (Node (Daemon_put at bytes) ∷ acts) a = unwrap_or (byte_in bytes at a) (plain_store acts a)
plain_store (_ ∷ acts) a = plain_store acts a
