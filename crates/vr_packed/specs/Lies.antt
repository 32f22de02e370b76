-- What stands in the ring of a packed queue, and what its sides keep of a chain.
use Rattle.std.specs.Prelude.{ℕ, Bool, true, false, not, ◌≡◌, ◌==◌, ◌+◌, ◌<◌, nat_lt, if◌then◌else◌, List, [], ◌∷◌, length, slice_index_or, Option, Some, None}
use Rattle.vd_model.specs.declared.parts.Part.{Part}
use Rattle.vr_pair.specs.QueueLists.{NumberedChain, FinishedChain}
use Rattle.vr_slots.specs.declared.slot.Slot.{Slot}
use Rattle.vr_slots.specs.Slots.{slot_flags, wrap_of, slot_at, with_slot}
use Rattle.vr_packed.specs.declared.chain.ChainRecord.{ChainRecord}
use Rattle.vr_packed.specs.declared.chain.TakenChain.{TakenChain}

-- THE RING

abbrev pub is_more : List Part → Bool
is_more [] = false
is_more (p ∷ ps) = true

-- the descriptor of a part that waits: AVAIL is the wrap counter, and USED isn't
abbrev pub waiting_slot : ℕ → Part → Bool → Bool → Slot
waiting_slot id p more wrap = record { at = p.at; len = p.len; id = id; flags = slot_flags more p.writable wrap (not wrap) }

-- the descriptor of a chain that was used: both are the wrap counter, and WRITE tells that bytes were written
abbrev pub used_slot : ℕ → ℕ → Bool → Slot
used_slot id len wrap = record { at = 0; len = len; id = id; flags = slot_flags false (nat_lt 0 len) wrap wrap }

-- the parts of a chain stand in order from a place on
abbrev pub ChainLies : List Slot → ℕ → ℕ → List Part → Type 0
ChainLies slots place id [] = Unit {0}
ChainLies slots place id (p ∷ ps) = (slot_at slots place ≡ waiting_slot id p (is_more ps) (wrap_of (length slots) place)) × ChainLies slots (place + 1) id ps

-- chains stand one behind the other from a place on, numbered on from a number, each with an id
abbrev pub Waits : List Slot → ℕ → ℕ → List NumberedChain → List ℕ → Type 0
Waits slots place number [] [] = Unit {0}
Waits slots place number (c ∷ cs) (id ∷ ids) = (c.number ≡ number) × (0 < length c.parts) × ChainLies slots place id c.parts × Waits slots (place + length c.parts) (number + 1) cs ids
Waits slots place number [] (id ∷ ids) = ⊥
Waits slots place number (c ∷ cs) [] = ⊥

-- each chain that was used has a descriptor at the place where the one before it ends
abbrev pub UsedLie : List Slot → ℕ → List FinishedChain → List ℕ → Type 0
UsedLie slots place [] [] = Unit {0}
UsedLie slots place (f ∷ fs) (id ∷ ids) = (slot_at slots place ≡ used_slot id f.len (wrap_of (length slots) place)) × (0 < length f.chain.parts) × UsedLie slots (place + length f.chain.parts) fs ids
UsedLie slots place [] (id ∷ ids) = ⊥
UsedLie slots place (f ∷ fs) [] = ⊥

-- with the parts of a chain written from a place on
abbrev pub chain_written : List Slot → ℕ → ℕ → List Part → List Slot
chain_written slots place id [] = slots
chain_written slots place id (p ∷ ps) = chain_written (with_slot slots place (waiting_slot id p (is_more ps) (wrap_of (length slots) place))) (place + 1) id ps

-- WHAT IS KEPT OF CHAINS

abbrev pub no_record : ChainRecord
no_record = record { number = 0; count = 0 }

abbrev pub record_of : NumberedChain → ChainRecord
record_of c = record { number = c.number; count = length c.parts }

-- the driver has the number and the count of parts of each chain, by its id
abbrev pub Known : List ChainRecord → List NumberedChain → List ℕ → Type 0
Known records [] [] = Unit {0}
Known records (c ∷ cs) (id ∷ ids) = (id < length records) × (slice_index_or records id no_record ≡ record_of c) × Known records cs ids
Known records [] (id ∷ ids) = ⊥
Known records (c ∷ cs) [] = ⊥

-- the device has the number and the count of parts of each chain that it took
abbrev pub AreTaken : List TakenChain → List NumberedChain → Type 0
AreTaken [] [] = Unit {0}
AreTaken (t ∷ ts) (c ∷ cs) = (t.number ≡ c.number) × (t.count ≡ length c.parts) × (0 < length c.parts) × AreTaken ts cs
AreTaken [] (c ∷ cs) = ⊥
AreTaken (t ∷ ts) [] = ⊥

abbrev pub taken_ids : List TakenChain → List ℕ
taken_ids [] = []
taken_ids (t ∷ ts) = t.id ∷ taken_ids ts

-- the first of a number, and all but it
abbrev pub taken_of : ℕ → List TakenChain → Option TakenChain
taken_of number [] = None
taken_of number (t ∷ ts) = if t.number == number then Some t else taken_of number ts

abbrev pub without_taken : ℕ → List TakenChain → List TakenChain
without_taken number [] = []
without_taken number (t ∷ ts) = if t.number == number then ts else t ∷ without_taken number ts

-- how often a number is in a list
abbrev pub one_if : Bool → ℕ
one_if b = if b then 1 else 0

abbrev pub occurs : ℕ → List ℕ → ℕ
occurs d [] = 0
occurs d (x ∷ xs) = one_if (x == d) + occurs d xs
