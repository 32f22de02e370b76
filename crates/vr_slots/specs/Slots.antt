-- The ring of a packed queue (virtio 1.2, 2.8): a descriptor's bytes and flags, and which slot a place is.
use Rattle.std.specs.Prelude.{ℕ, zero, suc, Bool, not, ◌+◌, ◌/◌, ◌%◌, ◌==◌, ◌&&◌, bit_and, if◌then◌else◌, List, [], ◌∷◌, ◌++◌, length, take, drop, slice_index_or, slice_set}
use Rattle.byteorder.specs.Endian.{little_bytes}
use Rattle.vd_num.specs.Field.{field_at}
use Rattle.vr_slots.specs.declared.slot.Slot.{Slot}

-- DESCRIPTORS

-- address, length, buffer id and flags, the low byte first
abbrev pub slot_bytes : Slot → List ℕ
slot_bytes s = little_bytes 8 s.at ++ little_bytes 4 s.len ++ little_bytes 2 s.id ++ little_bytes 2 s.flags

abbrev pub slot_of : List ℕ → Slot
slot_of bytes = record { at = field_at 8 bytes 0; len = field_at 4 bytes 8; id = field_at 2 bytes 12; flags = field_at 2 bytes 14 }

-- a descriptor of zeros
abbrev pub empty_slot : Slot
empty_slot = record { at = 0; len = 0; id = 0; flags = 0 }

-- NEXT 1, WRITE 2, AVAIL 0x80, USED 0x8000
abbrev pub slot_flags : Bool → Bool → Bool → Bool → ℕ
slot_flags next writable available used =
    (if next then 1 else 0) + (if writable then 2 else 0) + (if available then 128 else 0) + (if used then 32768 else 0)

abbrev pub slot_goes_on : Slot → Bool
slot_goes_on s = bit_and s.flags 1 == 1

abbrev pub slot_is_writable : Slot → Bool
slot_is_writable s = bit_and s.flags 2 == 2

abbrev pub has_available : Slot → Bool
has_available s = bit_and s.flags 128 == 128

abbrev pub has_used : Slot → Bool
has_used s = bit_and s.flags 32768 == 32768

-- a descriptor is available where AVAIL equals the wrap counter and USED doesn't
abbrev pub is_available : Bool → Slot → Bool
is_available wrap s = if wrap then has_available s && not (has_used s) else not (has_available s) && has_used s

-- and used where both equal it
abbrev pub is_used : Bool → Slot → Bool
is_used wrap s = if wrap then has_available s && has_used s else not (has_available s) && not (has_used s)

-- PLACES, counted from 0 on, in a ring of a size: each lap of the ring changes the wrap counter, which is 1 at first
abbrev pub wrap_of : ℕ → ℕ → Bool
wrap_of size place = (place / size) % 2 == 0

-- the descriptor at a place
abbrev pub slot_at : List Slot → ℕ → Slot
slot_at slots place = slice_index_or slots (place % length slots) empty_slot

-- with another descriptor there
abbrev pub with_slot : List Slot → ℕ → Slot → List Slot
with_slot slots place slot = slice_set slots (place % length slots) slot

-- the first n descriptors in bytes
abbrev pub slots_in : ℕ → List ℕ → List Slot
slots_in zero bytes = []
slots_in (suc n) bytes = slot_of (take 16 bytes) ∷ slots_in n (drop 16 bytes)
