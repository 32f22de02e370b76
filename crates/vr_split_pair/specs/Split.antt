-- The lists that the two sides of a split queue stand for.
use Rattle.std.specs.Prelude.{ℕ, ◌≡◌, ◌+◌, ◌%◌, ◌^◌, ◌≤◌, List, length, slice_index_or, Some, None, Ok}
use Rattle.byteorder.specs.Endian.{little_bytes}
use Rattle.vd_model.specs.Memory.{Memory, read}
use Rattle.vd_model.specs.Rings.{available_index_at, used_index_at}
use Rattle.vd_model.specs.declared.queue.RingPlace.{RingPlace}
use Rattle.vr_driver.specs.Side.{DriverSide, unowned_descriptors}
use Rattle.vr_device.specs.Side.{Side}
use Rattle.vr_pair.specs.QueueLists.{QueueLists, count_parts, finished_chains}
use Rattle.vr_split_pair.specs.declared.chain.TakenChain.{TakenChain}
use Rattle.vr_split_pair.specs.Lies.{IsLaid, IsThere, Waits, UsedLie, Known, AreTaken, heads_of, taken_heads, occurs}

-- The memory of the ring; the driver's side and the device's; the number of each chain by its head; the chains that the
-- device has; how many chains were added, and how many parts they have together.
pub record Sides : Type 0 where
  pub memory : Memory
  pub driver : DriverSide
  pub device : Side
  pub numbers : List ℕ
  pub taken : List TakenChain
  pub added : ℕ
  pub placed : ℕ

-- how many chains were reclaimed, used and taken so far
pub record Course : Type 0 where
  pub reclaimed : ℕ
  pub finished : ℕ
  pub given : ℕ

-- the numbers; the sides count modulo 65,536
pub record Counts (s : Sides) (q : QueueLists) (c : Course) : Type 0 where
  pub size : q.size ≡ s.driver.place.size
  pub same_place : s.device.place ≡ s.driver.place
  pub added : q.added ≡ s.added
  pub placed : q.placed ≡ s.placed
  pub few : s.added ≤ s.placed
  pub bound : s.placed ≤ 2 ^ 62 + 32768
  pub finished : c.reclaimed + length q.used ≡ c.finished
  pub given : c.finished + length q.taken ≡ c.given
  pub waiting : c.given + length q.waiting ≡ s.added
  pub driver_added : s.driver.added ≡ s.added % 65536
  pub driver_published : s.driver.published ≡ s.added % 65536
  pub driver_reclaimed : s.driver.reclaimed ≡ c.reclaimed % 65536
  pub device_position : s.device.position ≡ c.given % 65536
  pub device_used : s.device.used ≡ c.finished % 65536

-- the indices that stand in the ring
pub record Indices (m : Memory) (r : RingPlace) (added finished : ℕ) : Type 0 where
  pub available : read m (available_index_at r) 2 ≡ Ok (little_bytes 2 added)
  pub used : read m (used_index_at r) 2 ≡ Ok (little_bytes 2 finished)

-- The owners of descriptors are heads, and what no chain holds is free.
pub record Owners (s : Sides) (q : QueueLists) : Type 0 where
  pub owners_len : length s.driver.owners ≡ s.driver.place.size
  pub announced_len : length s.driver.announced ≡ s.driver.place.size
  pub numbers_len : length s.numbers ≡ s.driver.place.size
  pub headed : (d head : ℕ) → slice_index_or s.driver.owners d None ≡ Some head → slice_index_or s.driver.owners head None ≡ Some head
  pub free : length (unowned_descriptors s.driver) + (count_parts q.waiting + (count_parts q.taken + count_parts (finished_chains q.used))) ≡ s.driver.place.size

-- The lists that the sides stand for.
pub record SplitStands (s : Sides) (q : QueueLists) : Type 0 where
  pub descriptors : List (List ℕ)
  pub used_heads : List ℕ
  pub course : Course
  pub laid : IsLaid s.driver.place
  pub there : IsThere s.memory s.driver.place
  pub counts : Counts s q course
  pub indices : Indices s.memory s.driver.place s.added course.finished
  pub waits : Waits s.memory s.driver.place s.driver.owners course.given q.waiting descriptors
  pub takes : AreTaken s.taken q.taken
  pub uses : UsedLie s.memory s.driver.place course.reclaimed q.used used_heads
  pub known_waiting : Known s.driver.owners s.driver.announced s.numbers q.waiting (heads_of descriptors)
  pub known_taken : Known s.driver.owners s.driver.announced s.numbers q.taken (taken_heads s.taken)
  pub known_used : Known s.driver.owners s.driver.announced s.numbers (finished_chains q.used) used_heads
  pub once : (d : ℕ) → occurs d (heads_of descriptors) + (occurs d (taken_heads s.taken) + occurs d used_heads) ≤ 1
  pub owners : Owners s q
