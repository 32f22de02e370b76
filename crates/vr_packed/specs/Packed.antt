-- The lists that the two sides of a packed queue stand for.
use Rattle.std.specs.Prelude.{ℕ, not, ◌≡◌, ◌+◌, ◌^◌, ◌<◌, ◌≤◌, nat_lt, List, length}
use Rattle.vr_pair.specs.QueueLists.{QueueLists, count_parts, finished_chains}
use Rattle.vr_slots.specs.declared.slot.Slot.{Slot}
use Rattle.vr_slots.specs.Slots.{wrap_of, slot_at, has_available, has_used}
use Rattle.vr_packed.specs.declared.chain.ChainRecord.{ChainRecord}
use Rattle.vr_packed.specs.declared.chain.TakenChain.{TakenChain}
use Rattle.vr_packed.specs.Lies.{Waits, UsedLie, Known, AreTaken, taken_ids, occurs, one_if}

-- The ring; the driver's next place, its place in the used descriptors, how many chains it added, the ids that no chain
-- has, and a record for each id; the device's place in the available descriptors, its place in the used ones, how many
-- chains it took, and those that it has.
pub record Sides : Type 0 where
  pub slots : List Slot
  pub placed : ℕ
  pub reclaimed : ℕ
  pub added : ℕ
  pub free : List ℕ
  pub records : List ChainRecord
  pub read : ℕ
  pub written : ℕ
  pub given : ℕ
  pub taken : List TakenChain

-- the numbers
pub record Counts (s : Sides) (q : QueueLists) : Type 0 where
  pub size : q.size ≡ length s.slots
  pub some : 0 < length s.slots
  pub small : length s.slots ≤ 32768
  pub records_len : length s.records ≡ length s.slots
  pub added : q.added ≡ s.added
  pub placed : q.placed ≡ s.placed
  pub given : s.given + length q.waiting ≡ s.added
  pub few : s.added ≤ s.placed
  pub bound : s.placed ≤ 2 ^ 62 + 32768
  pub written : s.reclaimed + count_parts (finished_chains q.used) ≡ s.written
  pub read : s.written + count_parts q.taken ≡ s.read
  pub waiting : s.read + count_parts q.waiting ≡ s.placed
  pub fits : s.placed ≤ s.reclaimed + length s.slots

-- The ids: each number below the size is free or that of one chain.
pub record Ids (s : Sides) (waiting_ids used_ids : List ℕ) : Type 0 where
  pub once : (d : ℕ) → occurs d s.free + (occurs d waiting_ids + (occurs d (taken_ids s.taken) + occurs d used_ids)) ≡ one_if (nat_lt d (length s.slots))
  pub count : length s.free + (length waiting_ids + (length s.taken + length used_ids)) ≡ length s.slots

-- The flags of what isn't a waiting part: no descriptor from the driver's next place on is available or used, and none
-- from the device's used place up to it is used.
pub record Flags (s : Sides) : Type 0 where
  pub old : (p : ℕ) → s.placed ≤ p → p < s.placed + length s.slots → has_available (slot_at s.slots p) ≡ not (wrap_of (length s.slots) p)
  pub unused : (p : ℕ) → s.written ≤ p → p < s.placed → has_used (slot_at s.slots p) ≡ not (wrap_of (length s.slots) p)

-- The lists that the sides stand for.
pub record PackedStands (s : Sides) (q : QueueLists) : Type 0 where
  pub waiting_ids : List ℕ
  pub used_ids : List ℕ
  pub counts : Counts s q
  pub waits : Waits s.slots s.read s.given q.waiting waiting_ids
  pub takes : AreTaken s.taken q.taken
  pub uses : UsedLie s.slots s.reclaimed q.used used_ids
  pub known_waiting : Known s.records q.waiting waiting_ids
  pub known_taken : Known s.records q.taken (taken_ids s.taken)
  pub known_used : Known s.records (finished_chains q.used) used_ids
  pub ids : Ids s waiting_ids used_ids
  pub flags : Flags s
