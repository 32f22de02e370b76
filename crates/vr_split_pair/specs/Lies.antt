-- What stands in the memory of a split ring, and what is kept of its chains.
use Rattle.std.specs.Prelude.{ℕ, Bool, true, false, ◌≡◌, ◌==◌, ◌+◌, ◌*◌, ◌%◌, ◌^◌, ◌<◌, ◌≤◌, if◌then◌else◌, List, [], ◌∷◌, length, slice_index_or, Option, Some, None, IsSome, Ok}
use Rattle.byteorder.specs.Endian.{little_bytes}
use Rattle.vd_model.specs.Memory.{Memory, read}
use Rattle.vd_model.specs.Rings.{available_slot_at, used_element_at}
use Rattle.vd_model.specs.RingTurns.{first_of}
use Rattle.vd_model.specs.declared.queue.RingPlace.{RingPlace}
use Rattle.vd_laws.specs.Among.{Among}
use Rattle.vd_ring_laws.specs.TraceLaw.{IsWritten}
use Rattle.vr_driver.specs.Side.{is_owner}
use Rattle.vr_device.specs.Device.{element_bytes}
use Rattle.vr_pair.specs.QueueLists.{NumberedChain, FinishedChain}
use Rattle.vr_split_pair.specs.declared.chain.TakenChain.{TakenChain}

-- THE RING

-- The table, then the available ring, then the used ring; positions modulo 65,536 come to the same slots.
pub record IsLaid (r : RingPlace) : Type 0 where
  pub some : 0 < r.size
  pub small : r.size ≤ 32768
  pub cyclic : (n : ℕ) → n % 65536 % r.size ≡ n % r.size
  pub driver : r.desc + 16 * r.size ≤ r.driver
  pub device : r.driver + (6 + 2 * r.size) ≤ r.device
  pub ends : r.device + (6 + 8 * r.size) ≤ 2 ^ 32

-- a byte stands at each of its addresses
abbrev pub IsThere : Memory → RingPlace → Type 0
IsThere m r = (a : ℕ) → r.desc ≤ a → a < r.device + (6 + 8 * r.size) → IsSome (m a)

-- A chain that waits: its head stands in the slot of an index, and its parts in its descriptors, which it holds.
pub record WaitsAt (m : Memory) (r : RingPlace) (owners : List (Option ℕ)) (index : ℕ) (c : NumberedChain) (ds : List ℕ) : Type 0 where
  pub slot : read m (available_slot_at r index) 2 ≡ Ok (little_bytes 2 (first_of ds))
  pub written : IsWritten m r c.parts ds
  pub owned : (d : ℕ) → Among d ds → slice_index_or owners d None ≡ Some (first_of ds)

-- chains stand in the slots from an index on
abbrev pub Waits : Memory → RingPlace → List (Option ℕ) → ℕ → List NumberedChain → List (List ℕ) → Type 0
Waits m r owners index [] [] = Unit {0}
Waits m r owners index (c ∷ cs) (ds ∷ dss) = WaitsAt m r owners index c ds × Waits m r owners (index + 1) cs dss
Waits m r owners index [] (ds ∷ dss) = ⊥
Waits m r owners index (c ∷ cs) [] = ⊥

-- The chains that were used have used elements from an index on.
abbrev pub UsedLie : Memory → RingPlace → ℕ → List FinishedChain → List ℕ → Type 0
UsedLie m r index [] [] = Unit {0}
UsedLie m r index (f ∷ fs) (head ∷ heads) = (read m (used_element_at r index) 8 ≡ Ok (element_bytes head f.len)) × (f.len < 2 ^ 32) × UsedLie m r (index + 1) fs heads
UsedLie m r index [] (head ∷ heads) = ⊥
UsedLie m r index (f ∷ fs) [] = ⊥

-- WHAT IS KEPT OF CHAINS

-- how many descriptors the chain of a head holds
abbrev pub held_by : ℕ → List (Option ℕ) → ℕ
held_by head [] = 0
held_by head (owner ∷ owners) = (if is_owner head owner then 1 else 0) + held_by head owners

-- The driver's side has the head of a chain as published, and as the owner of as many descriptors as the chain has
-- parts; the number of the chain is kept by its head.
pub record IsKnown (owners : List (Option ℕ)) (announced : List Bool) (numbers : List ℕ) (c : NumberedChain) (head : ℕ) : Type 0 where
  pub owner : slice_index_or owners head None ≡ Some head
  pub told : slice_index_or announced head false ≡ true
  pub number : slice_index_or numbers head 0 ≡ c.number
  pub count : held_by head owners ≡ length c.parts
  pub some : 0 < length c.parts

abbrev pub Known : List (Option ℕ) → List Bool → List ℕ → List NumberedChain → List ℕ → Type 0
Known owners announced numbers [] [] = Unit {0}
Known owners announced numbers (c ∷ cs) (head ∷ heads) = IsKnown owners announced numbers c head × Known owners announced numbers cs heads
Known owners announced numbers [] (head ∷ heads) = ⊥
Known owners announced numbers (c ∷ cs) [] = ⊥

-- the pair has the number of each chain that is taken
abbrev pub AreTaken : List TakenChain → List NumberedChain → Type 0
AreTaken [] [] = Unit {0}
AreTaken (t ∷ ts) (c ∷ cs) = (t.number ≡ c.number) × AreTaken ts cs
AreTaken [] (c ∷ cs) = ⊥
AreTaken (t ∷ ts) [] = ⊥

-- the heads of chains, by their descriptors and by what is kept of them
abbrev pub heads_of : List (List ℕ) → List ℕ
heads_of [] = []
heads_of (ds ∷ dss) = first_of ds ∷ heads_of dss

abbrev pub taken_heads : List TakenChain → List ℕ
taken_heads [] = []
taken_heads (t ∷ ts) = t.head ∷ taken_heads ts

-- the first of a number, and all but it
abbrev pub taken_of : ℕ → List TakenChain → Option TakenChain
taken_of number [] = None
taken_of number (t ∷ ts) = if t.number == number then Some t else taken_of number ts

abbrev pub without_taken : ℕ → List TakenChain → List TakenChain
without_taken number [] = []
without_taken number (t ∷ ts) = if t.number == number then ts else t ∷ without_taken number ts

-- how often a number is in a list
abbrev pub one_if : Bool → ℕ
one_if b = if b then 1 else 0

abbrev pub occurs : ℕ → List ℕ → ℕ
occurs d [] = 0
occurs d (x ∷ xs) = one_if (x == d) + occurs d xs
