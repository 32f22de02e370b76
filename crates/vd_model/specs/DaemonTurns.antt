-- The lines of the block daemon: it walks chains, fetches requests, executes them and finishes them.
use Rattle.std.specs.Prelude.{ℕ, zero, suc, ◌+◌, ◌-◌, ◌*◌, ◌/◌, ◌%◌, ◌^◌, List, [], ◌∷◌, ◌++◌, length, take, drop, Bool, true, false, ◌==◌, nat_lt, nat_le, ◌&&◌, ◌||◌, not, if◌then◌else◌, map, Option, Some, None, is_some, Result, Ok, Err}
use Rattle.std.specs.Option.{option_map_or}
use Rattle.vd_num.specs.Field.{field_at}
use Rattle.vd_num.specs.declared.errno.Errno.TheVariants.{Noent, Again, Busy, Inval}
use Rattle.vd_model.specs.declared.queue.QueueInfo.{QueueInfo}
use Rattle.vd_model.specs.declared.queue.RingPlace.{RingPlace}
use Rattle.vd_model.specs.declared.parts.Part.{Part}
use Rattle.vd_model.specs.declared.parts.Chain.{Chain}
use Rattle.vd_model.specs.declared.answer.Tag.TheVariants as tag
use Rattle.vd_model.specs.declared.answer.Item.{Item}
use Rattle.vd_model.specs.declared.answer.Item.TheVariants.{Word, Number}
use Rattle.vd_model.specs.declared.answer.Answer.TheVariants as answer
use Rattle.vd_model.specs.Setting.{Setting}
use Rattle.vd_model.specs.Creation.{Creation, has_feature}
use Rattle.vd_model.specs.Acts.{Act, Node, Queue, Disk_act, Daemon_put, Fetched, Executed, Finished, Stored, state_acts}
use Rattle.vd_model.specs.State.{features_of, queue_info, is_ready}
use Rattle.vd_model.specs.Puts.{shown_put}
use Rattle.vd_model.specs.Memory.{Memory, read}
use Rattle.vd_model.specs.Rings.{minus16, next16, needs_event, number16, available_flags_at, available_index_at, available_slot_at, used_event_at, used_index_at, used_element_at, available_event_at}
use Rattle.vd_model.specs.Trace.{trace_start, Ending, whole, faulty, missing, ending_of}
use Rattle.vd_model.specs.Turn.{Turn, refusal_turn, refuse, refusal_if, done_with}
use Rattle.vd_model.specs.AreaTurns.{is_accessible}
use Rattle.vd_model.specs.BusTurns.{is_missing}
use Rattle.vd_model.specs.Raw.{little_bytes}
use Rattle.vd_model.specs.Queues.{before_first, fetches, finishes, in_hand, execution_of, Execution}
use Rattle.vd_model.specs.Block as block

-- ---- what the daemon reads

-- the bytes that a daemon can access
abbrev pub daemon_memory : Setting → List Act → Memory
daemon_memory x done a = if is_accessible x done a then Some (shown_put x.per_page done a).byte else None

-- a queue as the driver described it
abbrev pub ring_place_of : QueueInfo → RingPlace
ring_place_of i = record { size = i.num; desc = i.desc; driver = i.driver; device = i.device }

abbrev pub queue_place : List Act → ℕ → RingPlace
queue_place done q = ring_place_of (queue_info (state_acts done) q)

-- the driver accepted INDIRECT_DESC (bit 28), and EVENT_IDX (bit 29)
abbrev pub has_indirect : List Act → Bool
has_indirect done = has_feature (features_of (state_acts done)) 28

abbrev pub has_event_idx : List Act → Bool
has_event_idx done = has_feature (features_of (state_acts done)) 29

-- ---- chains

-- an ending that is no chain is answered as it is
abbrev pub chain_or : Ending → (Chain → Turn Act) → Turn Act
chain_or (whole chain) turn = turn chain
chain_or (faulty fault) turn = record { answer = answer.Chain fault; acts = [] }
chain_or (missing at) turn = record { answer = answer.Bus at; acts = [] }

-- bytes that can't be read are answered with the first address that can't be accessed
abbrev pub read_or : {X : Type 0} → Result X ℕ → (X → Turn Act) → Turn Act
read_or (Ok bytes) turn = turn bytes
read_or (Err at) turn = record { answer = answer.Bus at; acts = [] }

-- ---- walk

abbrev pub walk_turn : Setting → Creation → List Act → ℕ → ℕ → Turn Act
walk_turn x made done q head =
    refuse (refusal_if (is_missing made q || ((queue_place done q).size == 0)) Inval)
    (chain_or (ending_of (trace_start (queue_place done q) head (has_indirect done)) (daemon_memory x done))
    (λ chain. done_with (Word tag.Parts ∷ Number (length chain.parts) ∷ Word tag.Readable ∷ Number chain.readable ∷ Word tag.Writable ∷ Number chain.writable ∷ []) []))

-- ---- fetch

-- the used index that the first fetch since the position ended loads, or loaded
abbrev pub first_used : Setting → List Act → ℕ → Result ℕ ℕ
first_used x done q = option_map_or (λ earlier. number16 (daemon_memory x earlier) (used_index_at (queue_place earlier q))) (before_first done q) (number16 (daemon_memory x done) (used_index_at (queue_place done q)))

-- the position on the queue: that used index, and one more for each request fetched since
abbrev pub index_after : ℕ → ℕ → ℕ
index_after n from = (from + n) % 65536

-- the bytes of the parts that the device reads, in their order, or the first address that can't be accessed
abbrev pub bytes_then : Result (List ℕ) ℕ → Result (List ℕ) ℕ → Result (List ℕ) ℕ
bytes_then (Err at) rest = Err at
bytes_then (Ok bytes) (Ok more) = Ok (bytes ++ more)
bytes_then (Ok bytes) (Err at) = Err at

abbrev pub readable_bytes : Memory → List Part → Result (List ℕ) ℕ
readable_bytes m [] = Ok []
readable_bytes m (part ∷ parts) = if part.writable then readable_bytes m parts else bytes_then (read m part.at part.len) (readable_bytes m parts)

-- the position is told to the driver, with EVENT_IDX
abbrev pub event_puts : List Act → RingPlace → ℕ → List Act
event_puts done place position = if has_event_idx done then Node (Daemon_put (available_event_at place) (little_bytes 2 position)) ∷ [] else []

abbrev pub event_or : Setting → List Act → RingPlace → Turn Act → Turn Act
event_or x done place turn = if has_event_idx done then read_or (read (daemon_memory x done) (available_event_at place) 2) (λ bytes. turn) else turn

abbrev pub fetched_turn : List Act → ℕ → RingPlace → ℕ → Chain → List ℕ → Turn Act
fetched_turn done q place position chain bytes =
    done_with (Word tag.Head ∷ Number chain.head ∷ Word tag.Kind ∷ Number (field_at 4 bytes 0) ∷ Word tag.Sector ∷ Number (field_at 8 bytes 8) ∷ [])
    (event_puts done place (next16 position) ++ Queue (Fetched q) ∷ [])

-- a chain is a request where the device reads 16 bytes and writes one at least
abbrev pub request_or : Chain → Turn Act → Turn Act
request_or chain turn =
    if nat_lt chain.readable 16 || (chain.writable == 0)
    then record { answer = answer.Shape chain.readable chain.writable; acts = [] }
    else turn

abbrev pub fetch_chain : Setting → List Act → ℕ → RingPlace → ℕ → Chain → Turn Act
fetch_chain x done q place position chain =
    request_or chain
    (read_or (readable_bytes (daemon_memory x done) chain.parts)
    (λ bytes. event_or x done place (fetched_turn done q place position chain bytes)))

-- the head in the slot of the position, and its chain
abbrev pub fetch_at : Setting → List Act → ℕ → RingPlace → ℕ → Turn Act
fetch_at x done q place position =
    read_or (number16 (daemon_memory x done) (available_slot_at place position))
    (λ head. chain_or (ending_of (trace_start place head (has_indirect done)) (daemon_memory x done)) (fetch_chain x done q place position))

-- an available index that is too far ahead, or that is the position
abbrev pub ahead_or : RingPlace → ℕ → ℕ → Turn Act → Turn Act
ahead_or place found position turn =
    if nat_lt place.size (minus16 found position) then record { answer = answer.Ahead found position; acts = [] }
    else refuse (refusal_if (found == position) Again) turn

abbrev pub fetch_from : Setting → List Act → ℕ → RingPlace → ℕ → Turn Act
fetch_from x done q place position =
    read_or (number16 (daemon_memory x done) (available_index_at place))
    (λ found. ahead_or place found position (fetch_at x done q place position))

-- the queue isn't there, isn't ready, or has no size
abbrev pub is_idle : Creation → List Act → ℕ → Bool
is_idle made done q = is_missing made q || not (is_ready (state_acts done) q) || ((queue_place done q).size == 0)

abbrev pub fetch_turn : Setting → Creation → List Act → ℕ → Turn Act
fetch_turn x made done q =
    refuse (refusal_if (is_idle made done q) Inval)
    (refuse (refusal_if (is_some (in_hand done q)) Busy)
    (read_or (first_used x done q) (λ used. fetch_from x done q (queue_place done q) (index_after (fetches done q) used))))

-- ---- the request in hand

-- the position at which it was fetched, from the acts before
abbrev pub hand_position : Setting → List Act → ℕ → ℕ
hand_position x earlier q = number_or (first_used x earlier q) where
  number_or : Result ℕ ℕ → ℕ
  number_or (Ok used) = index_after (fetches earlier q) used
  number_or (Err at) = 0

abbrev pub hand_head : Setting → List Act → ℕ → ℕ
hand_head x earlier q = number_or (number16 (daemon_memory x earlier) (available_slot_at (queue_place earlier q) (hand_position x earlier q))) where
  number_or : Result ℕ ℕ → ℕ
  number_or (Ok head) = head
  number_or (Err at) = 0

-- its chain, and the bytes that the device read
pub record Hand : Type 0 where
  pub head : ℕ
  pub parts : List Part
  pub writable : ℕ
  pub bytes : List ℕ

abbrev pub bytes_or : Result (List ℕ) ℕ → List ℕ
bytes_or (Ok bytes) = bytes
bytes_or (Err at) = []

abbrev pub hand_of : Setting → List Act → Ending → Hand
hand_of x earlier (whole chain) =
    record { head = chain.head; parts = chain.parts; writable = chain.writable; bytes = bytes_or (readable_bytes (daemon_memory x earlier) chain.parts) }
hand_of x earlier _ = record { head = 0; parts = []; writable = 0; bytes = [] }

abbrev pub hand : Setting → List Act → ℕ → Hand
hand x earlier q = hand_of x earlier (ending_of (trace_start (queue_place earlier q) (hand_head x earlier q) (has_indirect earlier)) (daemon_memory x earlier))

-- ---- execute

-- what is stored, where the request stores its payload
abbrev pub store_acts : block.Block → block.RequestResult → List Act
store_acts b result = if result.stores then Disk_act (Stored (512 * b.sector) b.payload) ∷ [] else []

abbrev pub executed_turn : ℕ → block.Block → block.RequestResult → Turn Act
executed_turn q b result =
    done_with (Word tag.Status ∷ Number result.status ∷ []) (store_acts b result ++ Queue (Executed q result.status result.bytes) ∷ [])

abbrev pub execute_hand : block.Disk → Bool → ℕ → Hand → Turn Act
execute_hand disk failed q h =
    executed_turn q (block.block_of h.bytes h.writable) (block.result_of disk (block.block_of h.bytes h.writable) failed)

abbrev pub execute_turn : Setting → Creation → block.Disk → Bool → List Act → ℕ → Turn Act
execute_turn x made disk failed done q =
    refuse (refusal_if (is_missing made q) Inval)
    (refuse (refusal_if (is_some (execution_of done q)) Noent)
    (option_map_or (λ earlier. execute_hand disk failed q (hand x earlier q)) (in_hand done q) (refusal_turn Noent)))

-- ---- finish

-- the first address of the parts that the device writes that can't be accessed
abbrev pub unwritable_or : Memory → List Part → Turn Act → Turn Act
unwritable_or m [] turn = turn
unwritable_or m (part ∷ parts) turn =
    if part.writable then read_or (read m part.at part.len) (λ bytes. unwritable_or m parts turn) else unwritable_or m parts turn

-- the bytes spread over the parts that the device writes, the newest act first
abbrev pub spread_acts : List Part → List ℕ → List Act → List Act
spread_acts [] bytes acts = acts
spread_acts (part ∷ parts) bytes acts =
    if part.writable then spread_acts parts (drop part.len bytes) (Node (Daemon_put part.at (take part.len bytes)) ∷ acts) else spread_acts parts bytes acts

-- the field that decides whether the driver is interrupted
abbrev pub deciding_field : List Act → RingPlace → ℕ
deciding_field done place = if has_event_idx done then used_event_at place else available_flags_at place

-- the driver is interrupted when the used index goes from `used` to the next: with EVENT_IDX where it asked to be told of
-- that index, else unless bit 0 of the available ring's flags asks for none
abbrev pub wants_interrupt : List Act → ℕ → ℕ → ℕ
wants_interrupt done used field =
    if has_event_idx done then (if needs_event field (next16 used) used then 1 else 0)
    else (if field % 2 == 0 then 1 else 0)

-- the puts of a finish: answer and status, the used element, and then the used index
abbrev pub finish_puts : RingPlace → ℕ → Hand → Execution → List Act
finish_puts place used h end =
    Node (Daemon_put (used_index_at place) (little_bytes 2 (next16 used)))
    ∷ Node (Daemon_put (used_element_at place used) (little_bytes 4 h.head ++ little_bytes 4 h.writable))
    ∷ spread_acts h.parts (end.bytes ++ end.status ∷ []) []

-- the interrupt is decided by what the field has after them
abbrev pub finished_turn : Setting → List Act → ℕ → RingPlace → ℕ → Hand → List Act → Turn Act
finished_turn x done q place used h puts =
    read_or (number16 (daemon_memory x (puts ++ done)) (deciding_field done place))
    (λ field. done_with (Word tag.Len ∷ Number h.writable ∷ Word tag.Irq ∷ Number (wants_interrupt done used field) ∷ []) (Queue (Finished q) ∷ puts))

-- all that a finish accesses is tested before the first byte is stored
abbrev pub finish_hand : Setting → List Act → ℕ → RingPlace → ℕ → Hand → Execution → Turn Act
finish_hand x done q place used h end =
    unwritable_or (daemon_memory x done) h.parts
    (read_or (read (daemon_memory x done) (used_element_at place used) 8) (λ element.
    read_or (read (daemon_memory x done) (used_index_at place) 2) (λ index.
    read_or (read (daemon_memory x done) (deciding_field done place) 2) (λ field.
    finished_turn x done q place used h (finish_puts place used h end)))))

-- the device's used index: the one that the first fetch loaded, and one more for each request finished since
abbrev pub used_position : Setting → List Act → ℕ → ℕ
used_position x done q = number_or (first_used x done q) where
  number_or : Result ℕ ℕ → ℕ
  number_or (Ok used) = index_after (finishes done q) used
  number_or (Err at) = 0

abbrev pub finish_turn : Setting → Creation → List Act → ℕ → Turn Act
finish_turn x made done q =
    refuse (refusal_if (is_missing made q) Inval)
    (option_map_or (λ earlier.
    option_map_or (λ end. finish_hand x done q (queue_place done q) (used_position x done q) (hand x earlier q) end) (execution_of done q) (refusal_turn Noent))
    (in_hand done q) (refusal_turn Noent))
