-- The block device (virtio 1.2, section 5.2): what a request does to a disk, and what it is answered.
use Rattle.std.specs.Prelude.{ℕ, ◌+◌, ◌-◌, ◌*◌, ◌/◌, ◌%◌, List, [], ◌∷◌, ◌++◌, length, take, drop, replicate, Bool, true, false, ◌==◌, nat_lt, ◌&&◌, ◌||◌, not, if◌then◌else◌}
use Rattle.vd_num.specs.Field.{field_at}
use Rattle.vd_model.specs.Creation.{has_feature}
use Rattle.vd_model.specs.Puts.{each_from}

-- a request: its type, its first sector, the bytes after its header, and how many bytes the device may write, of which
-- the last one is the status
pub record Block : Type 0 where
  pub kind : ℕ
  pub sector : ℕ
  pub payload : List ℕ
  pub writable : ℕ

-- a request from the bytes that the device reads: a header of type, reserved and sector, and then the payload
abbrev pub block_of : List ℕ → ℕ → Block
block_of readable writable =
    record { kind = field_at 4 readable 0; sector = field_at 8 readable 8; payload = drop 16 readable; writable = writable }

-- a disk: its sectors, its bytes, the features that it offers, and its name
pub record Disk : Type 0 where
  pub sectors : ℕ
  pub byte : ℕ → ℕ
  pub features : ℕ
  pub name : List ℕ

-- what a request is answered, the bytes before the status, and the bytes that it stores, if it stores any
pub record RequestResult : Type 0 where
  pub status : ℕ
  pub bytes : List ℕ
  pub stores : Bool

-- zeros before the status
abbrev pub zeros_for : Block → List ℕ
zeros_for b = replicate (b.writable - 1) 0

abbrev pub ends_with : Block → ℕ → RequestResult
ends_with b status = record { status = status; bytes = zeros_for b; stores = false }

-- the status of a request that succeeds or fails with an I/O error, and of one that isn't supported
abbrev pub request_status : Bool → ℕ
request_status fails = if fails then 1 else 0

-- bytes of whole sectors from a sector on don't lie in the disk
abbrev pub is_outside_disk : Disk → ℕ → ℕ → Bool
is_outside_disk disk sector len = not (len % 512 == 0) || nat_lt disk.sectors (sector + len / 512)

-- IN: the sectors' content
abbrev pub read_result : Disk → Block → Bool → RequestResult
read_result disk b failed =
    if is_outside_disk disk b.sector (b.writable - 1) || failed then ends_with b 1
    else record { status = 0; bytes = each_from disk.byte (512 * b.sector) (b.writable - 1); stores = false }

-- OUT: the payload is stored, unless the device offers RO (bit 5)
abbrev pub write_result : Disk → Block → Bool → RequestResult
write_result disk b failed =
    if is_outside_disk disk b.sector (length b.payload) || has_feature disk.features 5 || failed then ends_with b 1
    else record { status = 0; bytes = zeros_for b; stores = true }

-- GET_ID: the first 20 bytes of the name, with zeros behind them
abbrev pub id_bytes : List ℕ → List ℕ
id_bytes name = take 20 (name ++ replicate 20 0)

abbrev pub id_result : Disk → Block → RequestResult
id_result disk b =
    if not (b.writable - 1 == 20) then ends_with b 1
    else record { status = 0; bytes = id_bytes disk.name; stores = false }

-- what a request does: IN 0, OUT 1, FLUSH 4, GET_ID 8; any other type isn't supported (status 2)
abbrev pub result_of : Disk → Block → Bool → RequestResult
result_of disk b failed =
    if b.kind == 0 then read_result disk b failed
    else if b.kind == 1 then write_result disk b failed
    else if b.kind == 4 then ends_with b (request_status failed)
    else if b.kind == 8 then id_result disk b
    else ends_with b 2
