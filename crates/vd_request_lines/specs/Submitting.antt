-- A request that is placed, with the buffers that are made for it.
use Rattle.std.specs.Prelude.{ℕ, ◌+◌, ◌<◌, ◌≤◌, ◌≡◌, ◌++◌, List, [], ◌∷◌, length, map, take, Bool, true, false, is_some, if◌then◌else◌, Option, Some, None, Result, Ok, Err}
use Rattle.vd_pool.specs.Memory.{PoolMemory as Pool}
use Rattle.vd_model.specs.declared.parts.Part.{Part}
use Rattle.vd_model.specs.Setting.{Setting}
use Rattle.vd_model.specs.Creation.{has_feature}
use Rattle.vd_model.specs.Acts.{Act, Streaming, Driver, Buffer, Zeroed, Poked, Synced_device}
use Rattle.vd_model.specs.Live.{buffers_len, maps, live_mappings, iova_of}
use Rattle.vd_model.specs.Place.{taken_slots}
use Rattle.vd_model.specs.DriverTurns.{buffer_limit}
use Rattle.vd_model.specs.RingTurns.{made_len, table_len, needed_descriptors, parts_count, table_bytes, placed_mappings, map_acts, mapping_part, last_after}
use Rattle.vd_domain.specs.Seen.{ring_map}
use Rattle.vd_buffers.specs.Places.{Places, total_of}
use Rattle.vd_buffers.specs.Stands as kept_buffers
use Rattle.vd_memory_lines.specs.declared.memory.Memory.{Memory}
use Rattle.vd_memory_lines.specs.Stands.{Stands}
use Rattle.vr_driver.specs.Side.{unowned_descriptors, with_chain, all_published, next_head}
use Rattle.vr_driver.specs.Driver.{with_index, is_kick_needed}
use Rattle.blk_driver.specs.Asked.{asked_in, front_bytes, draft_of, wants_of}
use Rattle.blk_driver.specs.Buffers.{has_range, AreNumbered}
use Rattle.blk_driver.specs.Driver as blk
use Rattle.blk_driver.specs.Mapped.{AreThere}
use Rattle.blk_driver.specs.Pended.{pending_for}
use Rattle.blk_driver.specs.Placed.{with_request}
use Rattle.blk_driver.specs.declared.ask.Ask.{Ask}
use Rattle.blk_driver.specs.declared.ask.Draft.{Draft}
use Rattle.blk_driver.specs.declared.driver.Submitted.{Submitted}
use Rattle.vd_driver_port.specs.Rest.{IsAfterPuts}
use Rattle.vd_request_lines.specs.declared.held.HeldDriver.{HeldDriver}
use Rattle.vd_request_lines.specs.Stands.{RequestsStand}

-- some acts are those that a memory, its pool and a queue stand for
pub record IsUsed (k : Memory) (m : Pool) (kept : Option HeldDriver) : Type 0 where
  pub setting : Setting
  pub acts : List Act
  pub queue : ℕ
  pub memory : Stands setting acts k m
  pub requests : RequestsStand acts queue kept

-- some acts are those that the buffers stand for
pub record AreUsed (places : Places) : Type 0 where
  pub size : ℕ
  pub acts : List Act
  pub stands : kept_buffers.Stands size acts places

-- the buffers that are made: the header and the status byte, and zeros for the table of the parts
abbrev pub made_acts : Bool → Ask → List Act
made_acts indirect ask =
    if indirect then Driver (Zeroed (table_len (asked_in ask))) ∷ Driver (Buffer (front_bytes ask 0)) ∷ [] else Driver (Buffer (front_bytes ask 0)) ∷ []

abbrev pub made_count : Bool → ℕ
made_count indirect = if indirect then 2 else 1

-- why a request can't be placed: its buffers have too many bytes, too few descriptors are free, or a mapping has no place
pub data HasNoPlace (x : Setting) (acts : List Act) (d : Draft) (free : ℕ) : Type 0 where
  no_bytes : buffer_limit < buffers_len acts + made_len d.indirect (asked_in d.ask) → HasNoPlace x acts d free
  too_few : free < needed_descriptors d.indirect (asked_in d.ask) → HasNoPlace x acts d free
  no_slots : placed_mappings x (taken_slots acts) (maps acts) (wants_of d) ≡ None → HasNoPlace x acts d free

-- how many descriptors it takes
abbrev pub needed : Draft → ℕ
needed d = needed_descriptors d.indirect (asked_in d.ask)

-- a request is submitted over buffers that are there: its first buffer is filled again, its ranges are mapped, its parts are
-- listed in its table, if it has one, and its chain is added to the ring and published
pub record IsSubmitted (old : Memory) (before : Pool) (d : Draft) (k l : blk.Driver) (r : Submitted) (new : Memory) (after : Pool) : Type 0 where
  pub filled : Memory
  pub filled_pool : Pool
  pub mapped : Memory
  pub mapped_pool : Pool
  pub listed : Memory
  pub listed_pool : Pool
  pub parts : List Part
  pub table : ℕ
  pub fills : (x : Setting) (acts : List Act) → Stands x acts old before → has_range acts d.buffer 0 17 ≡ true
      → Stands x (Driver (Poked d.buffer 0 (front_bytes d.ask 0)) ∷ acts) filled filled_pool
  pub first : (x : Setting) (acts : List Act) → Stands x acts filled filled_pool
      → (r.first_map ≡ maps acts) × (is_some (placed_mappings x (taken_slots acts) (maps acts) (wants_of d)) ≡ true)
  pub mapping : (x : Setting) (acts : List Act) (ms : List Streaming) → Stands x acts filled filled_pool → AreThere acts (wants_of d)
      → placed_mappings x (taken_slots acts) (maps acts) (wants_of d) ≡ Some ms → Stands x (map_acts ms ++ acts) mapped mapped_pool
  pub direct : d.indirect ≡ false → (listed ≡ mapped) × (listed_pool ≡ mapped_pool)
  pub is : (x : Setting) (acts : List Act) (ms : List Streaming) → Stands x acts filled filled_pool → AreThere acts (wants_of d) → AreNumbered (maps acts) (live_mappings acts)
      → placed_mappings x (taken_slots acts) (maps acts) (wants_of d) ≡ Some ms → parts ≡ map mapping_part (take (parts_count (asked_in d.ask)) ms)
  pub tabled : d.indirect ≡ true → (x : Setting) (acts : List Act) (ms : List Streaming) (last : Streaming) → Stands x acts filled filled_pool → AreThere acts (wants_of d)
      → AreNumbered (maps acts) (live_mappings acts) → placed_mappings x (taken_slots acts) (maps acts) (wants_of d) ≡ Some ms
      → last_after (parts_count (asked_in d.ask)) ms ≡ Some last
      → Stands x (Driver (Synced_device last) ∷ Driver (Poked (d.buffer + 1) 0 (table_bytes 0 parts)) ∷ (map_acts ms ++ acts)) listed listed_pool × (table ≡ iova_of last)
  pub same_told : ring_map listed.domain ≡ ring_map old.domain
  pub fits : needed d ≤ length (unowned_descriptors k.ring)
  pub head : r.head ≡ next_head k.ring (needed d)
  pub idx : r.idx ≡ (with_chain k.ring (needed d)).added
  pub kick : r.kick ≡ is_kick_needed (ring_map new.domain) (with_chain k.ring (needed d)) d.event_idx
  pub told : ring_map new.domain ≡ with_index (with_request (ring_map listed.domain) k.ring d.indirect table parts) (with_chain k.ring (needed d))
  pub puts : IsAfterPuts listed new listed_pool after
  pub side : l.ring ≡ all_published (with_chain k.ring (needed d))
  pub pending : l.pending ≡ k.pending ++ pending_for d r.head r.first_map ∷ []

-- a request's buffers are made, and it is submitted over them
pub record IsPlaced (old : Memory) (before : Pool) (ask : Ask) (features : ℕ) (k l : blk.Driver) (r : Submitted) (new : Memory) (after : Pool) : Type 0 where
  pub room : total_of old.buffers + made_len (has_feature features 28) (asked_in ask) ≤ buffer_limit
  pub made : Memory
  pub makes : (x : Setting) (acts : List Act) → Stands x acts old before → Stands x (made_acts (has_feature features 28) ask ++ acts) made before
  pub same_told : ring_map made.domain ≡ ring_map old.domain
  pub submits : IsSubmitted made before (draft_of ask (length old.buffers) features) k l r new after

-- no request was placed
abbrev pub IsNotPlaced : {E : Type 0} → Result (Option Submitted) E → Type 0
IsNotPlaced (Ok (Some r)) = ⊥
IsNotPlaced (Ok None) = Unit {0}
IsNotPlaced (Err error) = Unit {0}
