-- The rings of a split queue (virtio 1.2, 2.7): where their fields stand, and how their indices are compared.
use Rattle.std.specs.Prelude.{ℕ, Bool, ◌≡◌, ◌+◌, ◌-◌, ◌*◌, ◌%◌, ◌^◌, ◌≤◌, nat_lt, List, Result, Ok, Err}
use Rattle.vd_num.specs.Field.{field_at}
use Rattle.vd_model.specs.Memory.{Memory, read}
use Rattle.vd_model.specs.declared.queue.RingPlace.{RingPlace}

-- INDICES of sixteen bits

-- a less b, modulo 65,536
abbrev pub minus16 : ℕ → ℕ → ℕ
minus16 a b = (a + 65536 - b) % 65536

-- the index after n
abbrev pub next16 : ℕ → ℕ
next16 n = (n + 1) % 65536

-- an index that went from old to new passed the one that was asked for (virtio 1.2, 2.7.7.2)
abbrev pub needs_event : ℕ → ℕ → ℕ → Bool
needs_event event new old = nat_lt (minus16 (minus16 new event) 1) (minus16 new old)

-- a ring's size: a power of two up to 32,768
abbrev pub IsRingSize : ℕ → Type 0
IsRingSize size = (k : ℕ) × (k ≤ 15) × (size ≡ 2 ^ k)

-- FIELDS

-- an address in a ring
abbrev pub ring_address : ℕ → ℕ → ℕ
ring_address start offset = (start + offset) % 2 ^ 64

-- the available ring: flags, the index, a head for each slot, and the used index that is to be told of
abbrev pub available_flags_at : RingPlace → ℕ
available_flags_at place = ring_address place.driver 0

abbrev pub available_index_at : RingPlace → ℕ
available_index_at place = ring_address place.driver 2

abbrev pub available_slot_at : RingPlace → ℕ → ℕ
available_slot_at place index = ring_address place.driver (4 + 2 * (index % place.size))

abbrev pub used_event_at : RingPlace → ℕ
used_event_at place = ring_address place.driver (4 + 2 * place.size)

-- the used ring: flags, the index, an element for each slot, and the available index that is to be told of
abbrev pub used_flags_at : RingPlace → ℕ
used_flags_at place = ring_address place.device 0

abbrev pub used_index_at : RingPlace → ℕ
used_index_at place = ring_address place.device 2

abbrev pub used_element_at : RingPlace → ℕ → ℕ
used_element_at place index = ring_address place.device (4 + 8 * (index % place.size))

abbrev pub available_event_at : RingPlace → ℕ
available_event_at place = ring_address place.device (4 + 8 * place.size)

-- the number of two bytes
abbrev pub number16_of : Result (List ℕ) ℕ → Result ℕ ℕ
number16_of (Ok bytes) = Ok (field_at 2 bytes 0)
number16_of (Err address) = Err address

-- the number at an address, or the first of its two addresses at which no byte stands
abbrev pub number16 : Memory → ℕ → Result ℕ ℕ
number16 m at = number16_of (read m at 2)
