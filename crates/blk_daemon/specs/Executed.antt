-- What a request does to the image that its device's disk is a part of.
use Rattle.std.specs.Prelude.{ℕ, ◌≡◌, ◌+◌, ◌*◌, ◌<◌, ◌≤◌, List, slice_index, Bool, true, if◌then◌else◌, Option, Some, IsSome}
use Rattle.std.specs.Option.{ForSome, option_map}
use Rattle.vd_io.specs.Told.{Rose}
use Rattle.vd_io.specs.Sectors.{with_sectors}
use Rattle.vd_model.specs.declared.memory.Window.{Window}
use Rattle.vd_model.specs.Queues.{Execution}
use Rattle.vd_model.specs.Block.{Block, Disk, RequestResult, block_of, result_of}
use Rattle.vd_model.specs.DaemonTurns.{Hand}
use Rattle.blk_daemon.specs.declared.disk.Executed.{Executed}
use Rattle.blk_daemon.specs.Held.{Held, to_execute}

-- a request of a type that leaves so many bytes for the answer before the status
abbrev pub block_with : ℕ → ℕ → List ℕ → ℕ → Block
block_with kind sector payload room = record { kind = kind; sector = sector; payload = payload; writable = room + 1 }

-- a disk is this window of an image, as far as the image tells its bytes
pub record IsDisk (content : Option (List ℕ)) (window : Window) (offered : ℕ) (name : List ℕ) (disk : Disk) : Type 0 where
  pub sectors : disk.sectors ≡ window.count
  pub features : disk.features ≡ offered
  pub name_is : disk.name ≡ name
  pub bytes : ForSome content (λ c. (i : ℕ) → i < 512 * window.count → disk.byte i ≡ slice_index c (512 * window.first + i))

-- the image's content after a request that ended so
abbrev pub content_after : Window → Block → RequestResult → List ℕ → List ℕ
content_after window b result content = if result.stores then with_sectors (window.first + b.sector) b.payload content else content

-- a request ended with this result: the status and the content, and the answer's bytes where the image tells its own
pub record Ends (old new : Option (List ℕ)) (window : Window) (b : Block) (result : RequestResult) (end : Execution) : Type 0 where
  pub status : end.status ≡ result.status
  pub bytes : IsSome old → end.bytes ≡ result.bytes
  pub after : new ≡ option_map (content_after window b result) old

-- a request was carried out on a window of an image: it ended as on each disk that is this window, the image failing in it
-- or not, which it did only where its count of faults rose; a flush succeeded only where its count of flushes rose
pub record Executes {I : Type 0} (content : I → Option (List ℕ)) (faults flushes : I → ℕ) (window : Window) (offered : ℕ) (name : List ℕ) (b : Block) (failed : Bool) (old new : I) (end : Execution) : Type 0 where
  pub cause : failed ≡ true → Rose (faults old) (faults new)
  pub ends : (disk : Disk) → IsDisk (content old) window offered name disk → Ends (content old) (content new) window b (result_of disk b failed) end
  pub flushed : b.kind ≡ 4 → end.status ≡ 0 → Rose (flushes old) (flushes new)
  -- neither count falls
  pub more_faults : faults old ≤ faults new
  pub more_flushes : flushes old ≤ flushes new

-- the request in hand was carried out and its outcome is kept; its status is answered, and whether the image failed
pub record IsExecuted {I : Type 0} (content : I → Option (List ℕ)) (faults flushes : I → ℕ) (window : Window) (offered : ℕ) (held : Held) (old : I) (after : Held) (new : I) (executed : Executed) : Type 0 where
  pub hand : Hand
  pub outcome : Execution
  pub in_hand : to_execute held.request ≡ Some hand
  pub kept : after ≡ record held { request = Some (record { hand = hand; outcome = Some outcome }) }
  pub answered : executed.status ≡ outcome.status
  pub executes : Executes content faults flushes window offered held.name (block_of hand.bytes hand.writable) executed.failed old new outcome
