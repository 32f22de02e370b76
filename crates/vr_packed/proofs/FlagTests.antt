-- The flags of a descriptor, each read back.
use Rattle.std.proofs.Common.{◌≡◌, Bool, true, false, ◌==◌, refl}
use Rattle.std.specs.Prelude.{bit_and}
use Rattle.vr_slots.specs.Slots.{slot_flags}

pub record ReadsBack (next writable available used : Bool) : Type 0 where
  pub of_next : (bit_and (slot_flags next writable available used) 1 == 1) ≡ next
  pub of_writable : (bit_and (slot_flags next writable available used) 2 == 2) ≡ writable
  pub of_available : (bit_and (slot_flags next writable available used) 128 == 128) ≡ available
  pub of_used : (bit_and (slot_flags next writable available used) 32768 == 32768) ≡ used

pub reads_back : (next writable available used : Bool) → ReadsBack next writable available used
reads_back true true true true = record { of_next = refl; of_writable = refl; of_available = refl; of_used = refl }
reads_back true true true false = record { of_next = refl; of_writable = refl; of_available = refl; of_used = refl }
reads_back true true false true = record { of_next = refl; of_writable = refl; of_available = refl; of_used = refl }
reads_back true true false false = record { of_next = refl; of_writable = refl; of_available = refl; of_used = refl }
reads_back true false true true = record { of_next = refl; of_writable = refl; of_available = refl; of_used = refl }
reads_back true false true false = record { of_next = refl; of_writable = refl; of_available = refl; of_used = refl }
reads_back true false false true = record { of_next = refl; of_writable = refl; of_available = refl; of_used = refl }
reads_back true false false false = record { of_next = refl; of_writable = refl; of_available = refl; of_used = refl }
reads_back false true true true = record { of_next = refl; of_writable = refl; of_available = refl; of_used = refl }
reads_back false true true false = record { of_next = refl; of_writable = refl; of_available = refl; of_used = refl }
reads_back false true false true = record { of_next = refl; of_writable = refl; of_available = refl; of_used = refl }
reads_back false true false false = record { of_next = refl; of_writable = refl; of_available = refl; of_used = refl }
reads_back false false true true = record { of_next = refl; of_writable = refl; of_available = refl; of_used = refl }
reads_back false false true false = record { of_next = refl; of_writable = refl; of_available = refl; of_used = refl }
reads_back false false false true = record { of_next = refl; of_writable = refl; of_available = refl; of_used = refl }
reads_back false false false false = record { of_next = refl; of_writable = refl; of_available = refl; of_used = refl }
