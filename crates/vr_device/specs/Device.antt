-- The device's side of a ring (virtio 1.2, 2.7): what its calls answer by the memory, and what they write.
use Rattle.std.specs.Prelude.{ℕ, Bool, not, true, false, ◌≡◌, ◌==◌, nat_lt, bit_and, if◌then◌else◌, List, ◌++◌, Option, Some, None, Result, Ok, Err, IsOk}
use Rattle.byteorder.specs.Endian.{little_bytes}
use Rattle.vd_num.specs.declared.number.Bus.{Bus as Unmapped}
use Rattle.vd_model.specs.Memory.{Memory, read, written}
use Rattle.vd_model.specs.Rings.{minus16, next16, needs_event, number16, available_flags_at, available_index_at, available_slot_at, used_event_at, used_index_at, used_element_at}
use Rattle.vd_model.specs.Trace.{Ending, whole, faulty, missing, trace_start, ending_of}
use Rattle.vd_model.specs.declared.queue.RingPlace.{RingPlace}
use Rattle.vd_model.specs.declared.parts.Chain.{Chain}
use Rattle.vr_chain.specs.declared.error.WalkError.TheVariants.{Fault, Bus, Memory as OutOfMemory}
use Rattle.vr_device.specs.declared.error.PopError.{PopError}
use Rattle.vr_device.specs.declared.error.PopError.TheVariants.{Ahead, Walk}
use Rattle.vr_device.specs.Side.{Side}

-- TAKING UP a ring

abbrev pub resumed_at : RingPlace → Result ℕ ℕ → Result Side Unmapped
resumed_at place (Ok used) = Ok (record { place = place; position = used; used = used })
resumed_at place (Err address) = Err (record { at = address })

-- the used index is the position, too
abbrev pub resumed : Memory → RingPlace → Result Side Unmapped
resumed m place = resumed_at place (number16 m (used_index_at place))

-- THE NEXT CHAIN

-- how the trace of a head ends, as an answer
abbrev pub popped : Ending → Result (Option Chain) PopError
popped (whole chain) = Ok (Some chain)
popped (faulty fault) = Err (Walk (Fault fault))
popped (missing address) = Err (Walk (Bus address))

-- the answer for a head that stands in a slot, or for a slot that isn't there
abbrev pub pop_of : Memory → RingPlace → Bool → Result ℕ ℕ → Result (Option Chain) PopError
pop_of m place indirect (Ok head) = popped (ending_of (trace_start place head indirect) m)
pop_of m place indirect (Err address) = Err (Walk (Bus address))

-- Nothing is next where the available index is the position, and it is ahead where it is more than the size further on.
-- Else the chain is that of the head in the position's slot.
abbrev pub next_by : Memory → Side → Bool → Result ℕ ℕ → Result (Option Chain) PopError
next_by m side indirect (Ok found) =
    if found == side.position then Ok None
    else if nat_lt side.place.size (minus16 found side.position) then Err (Ahead found side.position)
    else pop_of m side.place indirect (number16 m (available_slot_at side.place side.position))
next_by m side indirect (Err address) = Err (Walk (Bus address))

-- what is next by the available index that stands in the ring
abbrev pub next_of : Memory → Side → Bool → Result (Option Chain) PopError
next_of m side indirect = next_by m side indirect (number16 m (available_index_at side.place))

-- the answer is this one, or want of memory
abbrev pub IsUnlessMemory : Result (Option Chain) PopError → Result (Option Chain) PopError → Type 0
IsUnlessMemory (Err (Walk OutOfMemory)) answer = Unit {0}
IsUnlessMemory (Err (Walk (Fault fault))) answer = Err (Walk (Fault fault)) ≡ answer
IsUnlessMemory (Err (Walk (Bus address))) answer = Err (Walk (Bus address)) ≡ answer
IsUnlessMemory (Err (Ahead found known)) answer = Err (Ahead found known) ≡ answer
IsUnlessMemory (Ok chain) answer = Ok chain ≡ answer

-- GIVING A CHAIN BACK

-- a used element: the head of the chain, and how many bytes were written
abbrev pub element_bytes : ℕ → ℕ → List ℕ
element_bytes head len = little_bytes 4 head ++ little_bytes 4 len

abbrev pub both_read : Result (List ℕ) ℕ → Result (List ℕ) ℕ → Result (List ℕ) ℕ
both_read (Ok bytes) second = second
both_read (Err address) second = Err address

-- what stands in the used index, or the first address of the next used element and of that index at which no byte stands
abbrev pub used_fields : Memory → Side → Result (List ℕ) ℕ
used_fields m side = both_read (read m (used_element_at side.place side.used) 8) (read m (used_index_at side.place) 2)

-- both can be written, or the answer is the first address at which no byte stands
abbrev pub Checks : Memory → Side → Result (Unit {0}) Unmapped → Type 0
Checks m side (Ok _) = IsOk (used_fields m side)
Checks m side (Err bus) = used_fields m side ≡ Err bus.at

-- the map with the element
abbrev pub with_element : Memory → Side → ℕ → ℕ → Memory
with_element m side head len = written m (used_element_at side.place side.used) (element_bytes head len)

-- and then with the index after it
abbrev pub with_used : Memory → Side → ℕ → ℕ → Memory
with_used m side head len = written (with_element m side head len) (used_index_at side.place) (little_bytes 2 (next16 side.used))

-- both are written, or the answer is the first address at which no byte stands and nothing is
abbrev pub Pushes : Memory → Side → ℕ → ℕ → Result (Unit {0}) Unmapped → Option Memory → Type 0
Pushes m side head len (Ok _) new = IsOk (used_fields m side) × (new ≡ Some (with_used m side head len))
Pushes m side head len (Err bus) new = (used_fields m side ≡ Err bus.at) × (new ≡ Some m)

-- INTERRUPTS

abbrev pub by_event : Side → Result ℕ ℕ → Result Bool Unmapped
by_event side (Ok event) = Ok (needs_event event side.used (minus16 side.used 1))
by_event side (Err address) = Err (record { at = address })

-- unless flag 1 is set
abbrev pub by_flags : Result ℕ ℕ → Result Bool Unmapped
by_flags (Ok flags) = Ok (not (bit_and flags 1 == 1))
by_flags (Err address) = Err (record { at = address })

-- an interrupt is wanted for the last chain given back: by the used event that the driver asked for, or by its flags
abbrev pub interrupt : Memory → Side → Bool → Result Bool Unmapped
interrupt m side true = by_event side (number16 m (used_event_at side.place))
interrupt m side false = by_flags (number16 m (available_flags_at side.place))
