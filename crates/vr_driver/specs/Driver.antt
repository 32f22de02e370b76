-- What the driver's side of a ring writes, and what it answers by the memory (virtio 1.2, section 2.7).
use Rattle.std.specs.Prelude.{ℕ, zero, suc, Bool, not, false, ◌+◌, ◌*◌, ◌==◌, bit_and, nat_lt, if◌then◌else◌, List, length, slice_index, slice_index_or, Option, Some, None, Result, Ok, Err}
use Rattle.std.specs.Result.{result_unwrap_or}
use Rattle.byteorder.specs.Endian.{little_bytes}
use Rattle.vd_num.specs.Field.{field_at}
use Rattle.vd_model.specs.Memory.{Memory, written, read}
use Rattle.vd_model.specs.Rings.{minus16, next16, needs_event, number16, available_index_at, available_slot_at, used_event_at, used_flags_at, used_index_at, used_element_at, available_event_at}
use Rattle.vd_model.specs.declared.queue.RingPlace.{RingPlace}
use Rattle.vd_model.specs.declared.parts.Part.{Part}
use Rattle.vd_model.specs.declared.descriptor.Descriptor.{Descriptor}
use Rattle.vd_model.specs.RingTurns.{descriptor_bytes, flags_of}
use Rattle.vr_driver.specs.Side.{DriverSide, next_chain, next_head, waiting, is_waiting, without_chain}
use Rattle.vr_driver.specs.declared.completion.Completion.{Completion}
use Rattle.vr_driver.specs.declared.completion.UsedError.{UsedError}
use Rattle.vr_driver.specs.declared.completion.UsedError.TheVariants.{BadId, TooFarAhead}

-- DESCRIPTORS

-- the descriptor of a part
abbrev pub part_descriptor : Part → Bool → ℕ → Descriptor
part_descriptor part has_next next = record { at = part.at; len = part.len; flags = flags_of has_next part.writable; next = next }

-- the descriptor of an indirect table of so many descriptors (INDIRECT 4)
abbrev pub table_descriptor : ℕ → ℕ → Descriptor
table_descriptor table count = record { at = table; len = 16 * count; flags = 4; next = 0 }

-- memory with a descriptor in the table
abbrev pub with_descriptor : Memory → RingPlace → ℕ → Descriptor → Memory
with_descriptor m place index d = written m (place.desc + 16 * index) (descriptor_bytes d.at d.len d.flags d.next)

abbrev pub no_part : Part
no_part = record { at = 0; len = 0; writable = false }

-- memory with the first n of some parts in these descriptors, each but the last with the next one's index
unfoldable pub chain_written : Memory → RingPlace → List Part → List ℕ → ℕ → Memory
chain_written m place parts indices zero = m
chain_written m place parts indices (suc n) =
    with_descriptor (chain_written m place parts indices n) place (slice_index indices n)
    (part_descriptor (slice_index_or parts n no_part) (nat_lt (n + 1) (length parts)) (slice_index indices (n + 1)))

-- ADDING

-- memory with a head in the available ring's next slot
abbrev pub with_head : Memory → DriverSide → ℕ → Memory
with_head m s head = written m (available_slot_at s.place s.added) (little_bytes 2 head)

-- memory with a chain of these parts in the least free descriptors
abbrev pub with_descriptors : Memory → DriverSide → List Part → Memory
with_descriptors m s parts = chain_written m s.place parts (next_chain s (length parts)) (length parts)

-- and its head in the next slot
abbrev pub with_parts : Memory → DriverSide → List Part → Memory
with_parts m s parts = with_head (with_descriptors m s parts) s (next_head s (length parts))

-- memory with a table in the least free descriptor, and that descriptor in the next slot
abbrev pub with_table : Memory → DriverSide → ℕ → ℕ → Memory
with_table m s table count = with_head (with_descriptor m s.place (next_head s 1) (table_descriptor table count)) s (next_head s 1)

-- PUBLISHING

-- memory with the count of all added chains in the available index
abbrev pub with_index : Memory → DriverSide → Memory
with_index m s = written m (available_index_at s.place) (little_bytes 2 s.added)

-- the number of two bytes at an address, or 0 where they aren't there
abbrev pub number16_or_zero : Memory → ℕ → ℕ
number16_or_zero m at = result_unwrap_or (number16 m at) 0

-- the device asks for a kick when the available index goes from old to new: with event indices where it asked to be told
-- of that index, else unless flag 1 of the used ring asks for none
abbrev pub is_kick_asked : Memory → RingPlace → Bool → ℕ → ℕ → Bool
is_kick_asked m place event_idx new old =
    if event_idx then needs_event (number16_or_zero m (available_event_at place)) new old
    else not (bit_and (number16_or_zero m (used_flags_at place)) 1 == 1)

-- and it is never kicked where nothing was added since the last publish
abbrev pub is_kick_needed : Memory → DriverSide → Bool → Bool
is_kick_needed m s event_idx = if s.added == s.published then false else is_kick_asked m s.place event_idx s.added s.published

-- RECLAIMING

-- the used element that is next: its id is the head of a published chain that isn't reclaimed, or it is refused
abbrev pub by_element : DriverSide → Result (List ℕ) ℕ → Result (Option Completion) UsedError
by_element s (Ok bytes) =
    if is_waiting s (field_at 4 bytes 0) then Ok (Some (record { head = field_at 4 bytes 0; len = field_at 4 bytes 4 }))
    else Err (BadId (field_at 4 bytes 0))
by_element s (Err address) = Ok None

-- nothing is next where the used index is the driver's, and it is refused where it is further on than the published
-- chains that aren't reclaimed
abbrev pub by_index : DriverSide → ℕ → Result (List ℕ) ℕ → Result (Option Completion) UsedError
by_index s used element =
    if used == s.reclaimed then Ok None
    else if nat_lt (waiting s) (minus16 used s.reclaimed) then Err (TooFarAhead used s.published)
    else by_element s element

abbrev pub next_completion : Memory → DriverSide → Result (Option Completion) UsedError
next_completion m s = by_index s (number16_or_zero m (used_index_at s.place)) (read m (used_element_at s.place s.reclaimed) 8)

-- the side after an answer: a completed chain is gone
abbrev pub side_after : DriverSide → Result (Option Completion) UsedError → DriverSide
side_after s (Ok (Some done)) = without_chain s done.head
side_after s (Ok None) = s
side_after s (Err error) = s

-- memory after it: with event indices the driver asks to be told of its next used index
abbrev pub with_answer : Memory → DriverSide → Bool → Result (Option Completion) UsedError → Memory
with_answer m s event_idx (Ok (Some done)) = if event_idx then written m (used_event_at s.place) (little_bytes 2 (next16 s.reclaimed)) else m
with_answer m s event_idx (Ok None) = m
with_answer m s event_idx (Err error) = m
