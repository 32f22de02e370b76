-- What an added chain and a used one leave in the memory of a ring.
use Rattle.std.proofs.Common.{◌≡◌, ℕ, ◌+◌, ◌*◌, ◌%◌, ◌<◌, ◌≤◌, List, length, Ok, ap, ◌∙◌, ◌⊎◌, inl, inr, arith}
use Rattle.std.proofs.Math.Nat.{mod-lt}
use Rattle.byteorder.specs.Endian.{little_bytes}
use Rattle.vd_model.specs.Memory.{Memory, read, written}
use Rattle.vd_model.specs.Rings.{next16, available_index_at, available_slot_at, used_index_at, used_element_at}
use Rattle.vd_model.specs.RingTurns.{first_of}
use Rattle.vd_model.specs.declared.parts.Part.{Part}
use Rattle.vd_model.specs.declared.queue.RingPlace.{RingPlace}
use Rattle.vd_laws.specs.Among.{Among}
use Rattle.vd_ring_laws.specs.ChainLaw.{AreDistinct}
use Rattle.vd_ring_laws.specs.TraceLaw.{IsLinked}
use Rattle.vr_split.specs.MemLemmas.{read-written, read-written_apart}
use Rattle.vr_split.specs.ReachLemmas.{there-written}
use Rattle.vr_driver.specs.Driver.{chain_written}
use Rattle.vr_device.specs.Device.{element_bytes}
use Rattle.vr_split_pair.specs.Lies.{IsLaid, IsThere}
use Rattle.vr_split_pair.proofs.Fields.{index_bytes, available_index-plain, used_index-plain, slot-plain, element-plain, slot-same, element-same, slots-apart, elements-apart}
use Rattle.vr_split_pair.proofs.Tables.{entry-kept, table-apart, there-chain, linked-kept, linked-written}

-- what is apart from a number of two bytes, and from a used element
number-apart : (m : Memory) (at value a n : ℕ) → (a + n ≤ at) ⊎ (at + 2 ≤ a) → read (written m at (little_bytes 2 value)) a n ≡ read m a n
number-apart m at value a n h = read-written_apart m at (little_bytes 2 value) a n h

element-apart : (m : Memory) (at head len a n : ℕ) → (a + n ≤ at) ⊎ (at + 8 ≤ a) → read (written m at (element_bytes head len)) a n ≡ read m a n
element-apart m at head len a n h = read-written_apart m at (element_bytes head len) a n h

-- A CHAIN IS ADDED as the one of an index

abbrev pub published : Memory → RingPlace → List Part → List ℕ → ℕ → Memory
published m r ps ds n = written (written (chain_written m r ps ds (length ps)) (available_slot_at r n) (little_bytes 2 (first_of ds))) (available_index_at r) (little_bytes 2 (n + 1))

pub record Added (m m' : Memory) (r : RingPlace) (ps : List Part) (ds : List ℕ) (n : ℕ) : Type 0 where
  pub linked : IsLinked m' r ps ds
  pub slot : read m' (available_slot_at r n) 2 ≡ Ok (little_bytes 2 (first_of ds))
  pub index : read m' (available_index_at r) 2 ≡ Ok (little_bytes 2 (n + 1))
  pub slots : (k : ℕ) → k < n → n < k + r.size → read m' (available_slot_at r k) 2 ≡ read m (available_slot_at r k) 2
  pub tables : (d : ℕ) → d < r.size → (Among d ds → ⊥) → read m' (r.desc + 16 * d) 16 ≡ read m (r.desc + 16 * d) 16
  pub device : (a k : ℕ) → r.device ≤ a → read m' a k ≡ read m a k
  pub there : IsThere m r → IsThere m' r

module _ (m : Memory) (r : RingPlace) (l : IsLaid r) (ps : List Part) (ds : List ℕ) (n : ℕ) where
  abbrev table : Memory
  table = chain_written m r ps ds (length ps)

  abbrev slotted : Memory
  slotted = written table (available_slot_at r n) (little_bytes 2 (first_of ds))

  -- what is apart from the index and from the slot
  above : (a k : ℕ) → a + k ≤ r.driver → read (published m r ps ds n) a k ≡ read table a k
  above a k h =
      let index = available_index-plain r l in
      let slot = slot-plain r l n in
      number-apart slotted (available_index_at r) (n + 1) a k (inl (omega (arith, index)))
      ∙ number-apart table (available_slot_at r n) (first_of ds) a k (inl (omega (arith, slot)))

  behind : (a k : ℕ) → r.driver + 4 ≤ a → (a + k ≤ available_slot_at r n) ⊎ (available_slot_at r n + 2 ≤ a) → read (published m r ps ds n) a k ≡ read table a k
  behind a k h other =
      let index = available_index-plain r l in
      number-apart slotted (available_index_at r) (n + 1) a k (inr (omega (arith, index)))
      ∙ number-apart table (available_slot_at r n) (first_of ds) a k other

  pub added_memory : 0 < length ps → length ds ≡ length ps → AreDistinct ds → ((d : ℕ) → Among d ds → d < r.size) → Added m (published m r ps ds n) r ps ds n
  added_memory some len distinct low =
      let driver = l.driver in
      let area = l.device in
      let size = l.some in
      let index = available_index-plain r l in
      let place = slot-plain r l n in
      let inside : n % r.size < r.size = mod-lt n size in
      record {
        linked = linked-kept table (published m r ps ds n) r ps ds (λ d there. let inside_too = low d there in above (r.desc + 16 * d) 16 (omega arith)) (linked-written m r ps ds some len distinct);
        slot = number-apart slotted (available_index_at r) (n + 1) (available_slot_at r n) 2 (inr (omega (arith, index, place))) ∙ read-written table (available_slot_at r n) (little_bytes 2 (first_of ds));
        index = read-written slotted (available_index_at r) (little_bytes 2 (n + 1));
        slots = λ k less near.
            let at = slot-plain r l k in
            let past : r.desc + 16 * r.size ≤ available_slot_at r k = omega (arith, at, driver) in
            behind (available_slot_at r k) 2 (omega (arith, at)) (slots-apart r l k n less near) ∙ table-apart (length ps) m r ps ds (available_slot_at r k) 2 (omega arith) len low past;
        tables = λ d inside_too other. above (r.desc + 16 * d) 16 (omega arith) ∙ entry-kept (length ps) m r ps ds d (omega arith) len other;
        device = λ a k h. behind a k (omega arith) (inr (omega (arith, place))) ∙ table-apart (length ps) m r ps ds a k (omega arith) len low (omega arith);
        there = λ there a from to. there-written slotted (available_index_at r) (little_bytes 2 (n + 1)) a (there-written table (available_slot_at r n) (little_bytes 2 (first_of ds)) a (there-chain (length ps) m r ps ds a (there a from to)));
      }

  -- as the driver writes it
  pub published-is : (added head : ℕ) → added ≡ n % 65536 → head ≡ first_of ds
      → written (written table (available_slot_at r added) (little_bytes 2 head)) (available_index_at r) (little_bytes 2 (next16 added)) ≡ published m r ps ds n
  published-is added head e f =
      let slot : available_slot_at r added ≡ available_slot_at r n = ap (available_slot_at r) e ∙ slot-same r l n in
      let on : next16 added ≡ (n + 1) % 65536 = omega (arith, e) in
      let bytes : little_bytes 2 (next16 added) ≡ little_bytes 2 (n + 1) = ap (little_bytes 2) on ∙ index_bytes (n + 1) in
      ap (λ (at : ℕ). written (written table at (little_bytes 2 head)) (available_index_at r) (little_bytes 2 (next16 added))) slot
      ∙ ap (λ (h : ℕ). written (written table (available_slot_at r n) (little_bytes 2 h)) (available_index_at r) (little_bytes 2 (next16 added))) f
      ∙ ap (λ (b : List ℕ). written slotted (available_index_at r) b) bytes

-- A CHAIN IS USED as the one of an index

abbrev pub given_back : Memory → RingPlace → ℕ → ℕ → ℕ → Memory
given_back m r head len n = written (written m (used_element_at r n) (element_bytes head len)) (used_index_at r) (little_bytes 2 (n + 1))

pub record Used (m m' : Memory) (r : RingPlace) (head len n : ℕ) : Type 0 where
  pub element : read m' (used_element_at r n) 8 ≡ Ok (element_bytes head len)
  pub index : read m' (used_index_at r) 2 ≡ Ok (little_bytes 2 (n + 1))
  pub elements : (k : ℕ) → k < n → n < k + r.size → read m' (used_element_at r k) 8 ≡ read m (used_element_at r k) 8
  pub before : (a k : ℕ) → a + k ≤ r.device → read m' a k ≡ read m a k
  pub there : IsThere m r → IsThere m' r

module _ (m : Memory) (r : RingPlace) (l : IsLaid r) (head len n : ℕ) where
  abbrev entered : Memory
  entered = written m (used_element_at r n) (element_bytes head len)

  pub used_memory : Used m (given_back m r head len n) r head len n
  used_memory =
      let index = used_index-plain r l in
      let place = element-plain r l n in
      record {
        element = number-apart entered (used_index_at r) (n + 1) (used_element_at r n) 8 (inr (omega (arith, index, place))) ∙ read-written m (used_element_at r n) (element_bytes head len);
        index = read-written entered (used_index_at r) (little_bytes 2 (n + 1));
        elements = λ k less near.
            let at = element-plain r l k in
            number-apart entered (used_index_at r) (n + 1) (used_element_at r k) 8 (inr (omega (arith, index, at)))
            ∙ element-apart m (used_element_at r n) head len (used_element_at r k) 8 (elements-apart r l k n less near);
        before = λ a k h.
            number-apart entered (used_index_at r) (n + 1) a k (inl (omega (arith, index))) ∙ element-apart m (used_element_at r n) head len a k (inl (omega (arith, place)));
        there = λ there a from to. there-written entered (used_index_at r) (little_bytes 2 (n + 1)) a (there-written m (used_element_at r n) (element_bytes head len) a (there a from to));
      }

  -- as the device writes it
  pub given_back-is : (used : ℕ) → used ≡ n % 65536 → written (written m (used_element_at r used) (element_bytes head len)) (used_index_at r) (little_bytes 2 (next16 used)) ≡ given_back m r head len n
  given_back-is used e =
      let place : used_element_at r used ≡ used_element_at r n = ap (used_element_at r) e ∙ element-same r l n in
      let on : next16 used ≡ (n + 1) % 65536 = omega (arith, e) in
      let bytes : little_bytes 2 (next16 used) ≡ little_bytes 2 (n + 1) = ap (little_bytes 2) on ∙ index_bytes (n + 1) in
      ap (λ (at : ℕ). written (written m at (element_bytes head len)) (used_index_at r) (little_bytes 2 (next16 used))) place
      ∙ ap (λ (b : List ℕ). written entered (used_index_at r) b) bytes
