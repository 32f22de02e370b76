-- The moves of both sides, as moves of the lists.
use Rattle.std.proofs.Common.{◌≡◌, ℕ, suc, ◌+◌, ◌-◌, ◌%◌, ◌^◌, ◌<◌, ◌≤◌, ◌==◌, ◌&&◌, nat_lt, Bool, true, false, not, List, [], ◌∷◌, ◌++◌, length, get_or, refl, sym, ap, subst, ◌∙◌, ◌⊎◌, inl, inr, arith}
use Rattle.std.proofs.Math.ListN.{set}
use Rattle.std.proofs.Math.Nat.{add-mod_right}
use Rattle.std.proofs.lemmas.Bool.Decides.{nat_tests}
use Rattle.std.proofs.lemmas.Bool.{cases_lt}
use Rattle.std.proofs.lemmas.List.{length-set, get_or-set_same}
use Rattle.std.proofs.lemmas.Grind.{common_steps}
use Rattle.vd_model.specs.declared.parts.Part.{Part}
use Rattle.vr_pair.specs.QueueLists.{NumberedChain, FinishedChain, QueueLists, count_parts, finished_chains, free_count, without_chain, with_added, with_taken, with_used, with_reclaimed}
use Rattle.vr_slots.specs.declared.slot.Slot.{Slot}
use Rattle.vr_slots.specs.Slots.{wrap_of, slot_at, with_slot, has_available, has_used, is_available, is_used}
use Rattle.vr_packed.specs.declared.chain.TakenChain.{TakenChain}
use Rattle.vr_packed.specs.Lies.{is_more, waiting_slot, used_slot, ChainLies, Waits, UsedLie, chain_written, no_record, record_of, Known, AreTaken, taken_ids, without_taken, one_if, occurs}
use Rattle.vr_packed.specs.Packed.{Sides, PackedStands}
use Rattle.vr_packed.proofs.FlagTests.{reads_back}
use Rattle.vr_packed.proofs.Places.{apart, apart_back, length-with_slot, slot-here, slot-other, slot-lap, wrap-lap}
use Rattle.vr_packed.proofs.Chains.{AreAlike, waits-kept, uses-kept, waits-snoc, uses-snoc, count-snoc, finished-snoc, length-chain_written, written-other, written-lies}
use Rattle.vr_packed.proofs.Records.{either, occurs-snoc, known-set, known-snoc, taken-snoc, ids-snoc, Removed}

-- TESTS

not-not : (b : Bool) → b ≡ not (not b)
not-not true = refl
not-not false = refl

one_if-le : (b : Bool) → one_if b ≤ 1
one_if-le true = omega arith
one_if-le false = omega arith

below_of : (d n : ℕ) → 0 < one_if (nat_lt d n) → d < n
below_of d n h = elim (cases_lt d n) [
  | inl below ↦ below
  | inr past ↦
      (let test : nat_lt d n ≡ false = grind (arith, nat_tests) in
      let none : one_if (nat_lt d n) ≡ 0 = ap one_if test in
      absurd (omega (arith, none, h)))
]

-- a waiting descriptor is available, and no other wrap counter's
is_available-same : (wrap : Bool) (s : Slot) → has_available s ≡ wrap → has_used s ≡ not wrap → is_available wrap s ≡ true
is_available-same true s a u = rw (a, u) refl
is_available-same false s a u = rw (a, u) refl

is_available-other : (wrap : Bool) (s : Slot) → has_available s ≡ not wrap → is_available wrap s ≡ false
is_available-other true s a = rw a refl
is_available-other false s a = rw a refl

is_used-same : (wrap : Bool) (s : Slot) → has_available s ≡ wrap → has_used s ≡ wrap → is_used wrap s ≡ true
is_used-same true s a u = rw (a, u) refl
is_used-same false s a u = rw (a, u) refl

is_used-other : (wrap : Bool) (s : Slot) → has_used s ≡ not wrap → is_used wrap s ≡ false
is_used-other true s u = elim (either (has_available s)) [
  | inl a ↦ (let test : (has_available s && has_used s) ≡ false = ap (λ (x : Bool). x && has_used s) a ∙ u in test)
  | inr a ↦ (let test : (has_available s && has_used s) ≡ false = ap (λ (x : Bool). x && has_used s) a in test)
]
is_used-other false s u = elim (either (has_available s)) [
  | inl a ↦ (let test : (not (has_available s) && not (has_used s)) ≡ false = ap (λ (x : Bool). not x && not (has_used s)) a in test)
  | inr a ↦ (let test : (not (has_available s) && not (has_used s)) ≡ false = ap (λ (x : Bool). not x && not (has_used s)) a ∙ ap not u in test)
]

is_used-old : (wrap : Bool) (s : Slot) → has_available s ≡ not wrap → is_used wrap s ≡ false
is_used-old true s a = rw a refl
is_used-old false s a = rw a refl

-- the marks of a descriptor
pub record Marks (s : Slot) (available used : Bool) : Type 0 where
  pub available_is : has_available s ≡ available
  pub used_is : has_used s ≡ used

waiting-marks : (s : Slot) (id : ℕ) (p : Part) (more wrap : Bool) → s ≡ waiting_slot id p more wrap → Marks s wrap (not wrap)
waiting-marks s id p more wrap e =
    let back = reads_back more p.writable wrap (not wrap) in
    record { available_is = ap has_available e ∙ back.of_available; used_is = ap has_used e ∙ back.of_used }

used-marks : (s : Slot) (id len : ℕ) (wrap : Bool) → s ≡ used_slot id len wrap → Marks s wrap wrap
used-marks s id len wrap e =
    let back = reads_back false (nat_lt 0 len) wrap wrap in
    record { available_is = ap has_available e ∙ back.of_available; used_is = ap has_used e ∙ back.of_used }

lies-marks_step : (slots : List Slot) (place id : ℕ) (x : Part) (xs : List Part) (p : ℕ) → ChainLies slots place id (x ∷ xs) → place ≤ p
    → (place + 1 ≤ p → Marks (slot_at slots p) (wrap_of (length slots) p) (not (wrap_of (length slots) p))) → Marks (slot_at slots p) (wrap_of (length slots) p) (not (wrap_of (length slots) p))
lies-marks_step slots place id x xs p h low later = elim (cases_lt place p) [
  | inl behind ↦ later (omega arith)
  | inr here ↦
      (let same : place ≡ p = omega arith in
      subst (λ (k : ℕ). Marks (slot_at slots k) (wrap_of (length slots) k) (not (wrap_of (length slots) k))) same (waiting-marks (slot_at slots place) id x (is_more xs) (wrap_of (length slots) place) h.0))
]

-- the marks at each place of a chain that waits
pub lies-marks : (slots : List Slot) (place id : ℕ) (ps : List Part) (p : ℕ) → ChainLies slots place id ps → place ≤ p → p < place + length ps → Marks (slot_at slots p) (wrap_of (length slots) p) (not (wrap_of (length slots) p))
lies-marks slots place id [] p h low high = absurd (omega arith)
lies-marks slots place id (x ∷ xs) p h low high = lies-marks_step slots place id x xs p h low (λ next. lies-marks slots (place + 1) id xs p h.1 next (omega arith))

-- the same marks by another size of the same number
marks-sized : (s : Slot) (n m p : ℕ) → n ≡ m → Marks s (wrap_of n p) (not (wrap_of n p)) → Marks s (wrap_of m p) (not (wrap_of m p))
marks-sized s n m p e h = subst (λ (k : ℕ). Marks s (wrap_of k p) (not (wrap_of k p))) e h

-- ADD

-- what the free ids say when one is taken from them
pub record FreeId (s : Sides) (q : QueueLists) (h : PackedStands s q) (id : ℕ) (free : List ℕ) : Type 0 where
  pub within : id < length s.slots
  pub in_waiting : occurs id h.waiting_ids ≡ 0
  pub in_taken : occurs id (taken_ids s.taken) ≡ 0
  pub in_used : occurs id h.used_ids ≡ 0

pub free_id : (s : Sides) (q : QueueLists) (h : PackedStands s q) (id : ℕ) (free : List ℕ) → s.free ≡ free ++ id ∷ [] → FreeId s q h id free
free_id s q h id free e =
    let same : (id == id) ≡ true = grind (arith, nat_tests) in
    let one : one_if (id == id) ≡ 1 = ap one_if same in
    let parts : occurs id s.free ≡ one_if (id == id) + occurs id free = ap (occurs id) e ∙ occurs-snoc id free id in
    let once = h.ids.once id in
    let le = one_if-le (nat_lt id (length s.slots)) in
    let positive : 0 < one_if (nat_lt id (length s.slots)) = omega (arith, one, parts, once) in
    record {
      within = below_of id (length s.slots) positive;
      in_waiting = omega (arith, one, parts, once, le);
      in_taken = omega (arith, one, parts, once, le);
      in_used = omega (arith, one, parts, once, le);
    }

-- the slots of places before the driver's next one stay when a chain is written there
written-alike : (slots : List Slot) (placed id from m : ℕ) (ps : List Part) → 0 < length slots → from + m ≤ placed → placed + length ps ≤ from + length slots
    → AreAlike slots (chain_written slots placed id ps) from m
written-alike slots placed id from m ps some below fits = record {
  len = length-chain_written slots placed id ps;
  same = λ p low high. written-other slots placed id ps p (λ r l u e. apart (length slots) p r some (omega arith) (omega arith) e);
}

added-flags : (s : Sides) (q : QueueLists) (id : ℕ) (ps : List Part) (h : PackedStands s q) → s.placed + length ps ≤ s.reclaimed + length s.slots
    → ChainLies (chain_written s.slots s.placed id ps) s.placed id ps
    → (p : ℕ) → s.written ≤ p → p < s.placed + length ps → Marks (slot_at (chain_written s.slots s.placed id ps) p) (has_available (slot_at (chain_written s.slots s.placed id ps) p)) (not (wrap_of (length s.slots) p))
added-flags s q id ps h fits lies p low high =
    let counts = h.counts in
    let slots = chain_written s.slots s.placed id ps in
    let len : length slots ≡ length s.slots = length-chain_written s.slots s.placed id ps in
    elim (cases_lt p s.placed) [
      | inl before ↦
          (let stays : slot_at slots p ≡ slot_at s.slots p =
          written-other s.slots s.placed id ps p (λ r l u e. apart (length s.slots) p r counts.some (omega arith) (omega (arith, counts.written, fits)) e) in
          record { available_is = refl; used_is = ap has_used stays ∙ h.flags.unused p low before })
      | inr at ↦
          (let marks = lies-marks slots s.placed id ps p lies at high in
          record { available_is = refl; used_is = marks.used_is ∙ ap (λ (n : ℕ). not (wrap_of n p)) len })
    ]

added-old : (s : Sides) (q : QueueLists) (id : ℕ) (ps : List Part) (h : PackedStands s q) → s.placed + length ps ≤ s.reclaimed + length s.slots
    → ChainLies (chain_written s.slots s.placed id ps) s.placed id ps
    → (p : ℕ) → s.placed + length ps ≤ p → p < s.placed + length ps + length s.slots → has_available (slot_at (chain_written s.slots s.placed id ps) p) ≡ not (wrap_of (length s.slots) p)
added-old s q id ps h fits lies p low high =
    let counts = h.counts in
    let n : ℕ = length s.slots in
    let slots = chain_written s.slots s.placed id ps in
    let len : length slots ≡ length s.slots = length-chain_written s.slots s.placed id ps in
    elim (cases_lt p (s.placed + length s.slots)) [
      | inl before ↦
          (let stays : slot_at slots p ≡ slot_at s.slots p =
          written-other s.slots s.placed id ps p (λ r l u e. apart_back (length s.slots) r p counts.some (omega arith) (omega arith) e) in
          ap has_available stays ∙ h.flags.old p (omega arith) before)
      | inr at ↦
          (let r : ℕ = p - length s.slots in
          let lap : r + length s.slots ≡ p = omega arith in
          let marks = lies-marks slots s.placed id ps r lies (omega arith) (omega arith) in
          let there : slot_at slots p ≡ slot_at slots r = ap (slot_at slots) (sym lap ∙ ap (λ (k : ℕ). r + k) (sym len)) ∙ slot-lap slots r in
          let wraps : wrap_of (length s.slots) p ≡ not (wrap_of (length s.slots) r) = ap (wrap_of (length s.slots)) (sym lap) ∙ wrap-lap (length s.slots) r counts.some in
          ap has_available there ∙ marks.available_is ∙ ap (λ (k : ℕ). wrap_of k r) len ∙ not-not (wrap_of (length s.slots) r) ∙ ap not (sym wraps))
    ]

-- the sides when a chain is added under an id, and these are free
abbrev pub added_sides : Sides → ℕ → List ℕ → List Part → Sides
added_sides s id free ps = record s {
  slots = chain_written s.slots s.placed id ps;
  placed = s.placed + length ps;
  added = s.added + 1;
  free = free;
  records = set s.records id (record { number = s.added; count = length ps });
}

abbrev new_chain : QueueLists → List Part → NumberedChain
new_chain q ps = record { number = q.added; parts = ps }

pub add_stands : (s : Sides) (q : QueueLists) (id : ℕ) (free : List ℕ) (ps : List Part) → PackedStands s q → s.free ≡ free ++ id ∷ [] → 0 < length ps → length ps ≤ free_count q → s.placed < 2 ^ 62
    → PackedStands (added_sides s id free ps) (with_added q ps)
add_stands s q id free ps h e some room bound =
    let counts = h.counts in
    let fits : s.placed + length ps ≤ s.reclaimed + length s.slots = omega (arith, counts.size, counts.written, counts.read, counts.waiting, counts.fits, room) in
    let short : length ps ≤ length s.slots = omega (arith, counts.size, room) in
    let slots = chain_written s.slots s.placed id ps in
    let len : length slots ≡ length s.slots = length-chain_written s.slots s.placed id ps in
    let lies : ChainLies slots s.placed id ps = written-lies s.slots s.placed id ps counts.some short in
    let own = free_id s q h id free e in
    let records = set s.records id (record { number = s.added; count = length ps }) in
    let records_len : length records ≡ length s.records = length-set s.records id (record { number = s.added; count = length ps }) in
    let here : get_or records id no_record ≡ record { number = s.added; count = length ps } =
    get_or-set_same s.records id (record { number = s.added; count = length ps }) no_record (omega (arith, own.within, counts.records_len)) in
    let is : get_or records id no_record ≡ record_of (new_chain q ps) = here ∙ ap (λ (k : ℕ). record_of (record { number = k; parts = ps })) (sym counts.added) in
    let id_within : id < length records = omega (arith, own.within, counts.records_len, records_len) in
    let placed_at : s.read + count_parts q.waiting ≡ s.placed = counts.waiting in
    let waits_before = waits-kept s.slots slots s.read s.given q.waiting h.waiting_ids (written-alike s.slots s.placed id s.read (count_parts q.waiting) ps counts.some (omega (arith, counts.waiting)) (omega (arith, fits, counts.written, counts.read))) h.waits in
    let uses_before = uses-kept s.slots slots s.reclaimed q.used h.used_ids (written-alike s.slots s.placed id s.reclaimed (count_parts (finished_chains q.used)) ps counts.some (omega (arith, counts.written, counts.read, counts.waiting)) fits) h.uses in
    let snoc : count_parts (q.waiting ++ new_chain q ps ∷ []) ≡ count_parts q.waiting + length ps = count-snoc q.waiting (new_chain q ps) in
    let more : length (q.waiting ++ new_chain q ps ∷ []) ≡ length q.waiting + 1 = grind (arith, common_steps) in
    let more_ids : length (h.waiting_ids ++ id ∷ []) ≡ length h.waiting_ids + 1 = grind (arith, common_steps) in
    let less_free : length s.free ≡ length free + 1 = ap (λ (l : List ℕ). length l) e ∙ grind (arith, common_steps) in
    record {
      waiting_ids = h.waiting_ids ++ id ∷ [];
      used_ids = h.used_ids;
      counts = record {
        size = counts.size ∙ sym len;
        some = omega (arith, len, counts.some);
        small = omega (arith, len, counts.small);
        records_len = records_len ∙ counts.records_len ∙ sym len;
        added = ap (λ (k : ℕ). k + 1) counts.added;
        placed = ap (λ (k : ℕ). k + length ps) counts.placed;
        given = omega (arith, more, counts.given);
        few = omega (arith, some, counts.few);
        bound = omega (arith, bound, short, counts.small);
        written = counts.written;
        read = counts.read;
        waiting = omega (arith, snoc, counts.waiting);
        fits = omega (arith, fits, len);
      };
      waits = waits-snoc slots s.read s.given q.waiting h.waiting_ids (new_chain q ps) id (omega (arith, counts.added, counts.given)) some
          (subst (λ (k : ℕ). ChainLies slots k id ps) (sym placed_at) lies) waits_before;
      takes = h.takes;
      uses = uses_before;
      known_waiting = known-snoc records q.waiting h.waiting_ids (new_chain q ps) id id_within is (known-set s.records id (record { number = s.added; count = length ps }) q.waiting h.waiting_ids own.in_waiting h.known_waiting);
      known_taken = known-set s.records id (record { number = s.added; count = length ps }) q.taken (taken_ids s.taken) own.in_taken h.known_taken;
      known_used = known-set s.records id (record { number = s.added; count = length ps }) (finished_chains q.used) h.used_ids own.in_used h.known_used;
      ids = record {
        once = λ d.
            let parts : occurs d s.free ≡ one_if (id == d) + occurs d free = ap (occurs d) e ∙ occurs-snoc d free id in
            let joined : occurs d (h.waiting_ids ++ id ∷ []) ≡ one_if (id == d) + occurs d h.waiting_ids = occurs-snoc d h.waiting_ids id in
            let once = h.ids.once d in
            let moved : occurs d free + (occurs d (h.waiting_ids ++ id ∷ []) + (occurs d (taken_ids s.taken) + occurs d h.used_ids)) ≡ one_if (nat_lt d (length s.slots)) = omega (arith, parts, joined, once) in
            moved ∙ ap (λ (k : ℕ). one_if (nat_lt d k)) (sym len);
        count = let count = h.ids.count in omega (arith, count, more_ids, less_free, len);
      };
      flags = record {
        old = λ p low high. added-old s q id ps h fits lies p low (omega (arith, high, len)) ∙ ap (λ (k : ℕ). not (wrap_of k p)) (sym len);
        unused = λ p low high. (added-flags s q id ps h fits lies p low high).used_is ∙ ap (λ (k : ℕ). not (wrap_of k p)) (sym len);
      };
    }

-- NEXT

-- the chain at the front of those that wait
pub record Front (slots : List Slot) (place number : ℕ) (ids : List ℕ) (c : NumberedChain) (rest : List NumberedChain) : Type 0 where
  pub id : ℕ
  pub more : List ℕ
  pub ids_are : ids ≡ id ∷ more
  pub numbered : c.number ≡ number
  pub some : 0 < length c.parts
  pub lies : ChainLies slots place id c.parts
  pub waits : Waits slots (place + length c.parts) (number + 1) rest more

front_of : (slots : List Slot) (place number : ℕ) (ids : List ℕ) (c : NumberedChain) (rest : List NumberedChain) → Waits slots place number (c ∷ rest) ids → Front slots place number ids c rest
front_of slots place number [] c rest h = absurd h
front_of slots place number (id ∷ more) c rest h = record { id = id; more = more; ids_are = refl; numbered = h.0; some = h.1; lies = h.2; waits = h.3 }

pub front : (slots : List Slot) (place number : ℕ) (cs : List NumberedChain) (ids : List ℕ) (c : NumberedChain) (rest : List NumberedChain) → cs ≡ c ∷ rest → Waits slots place number cs ids → Front slots place number ids c rest
front slots place number cs ids c rest e h = front_of slots place number ids c rest (subst (λ (l : List NumberedChain). Waits slots place number l ids) e h)

-- the first part of a chain that isn't empty is available
chain-available : (slots : List Slot) (place id : ℕ) (ps : List Part) → 0 < length ps → ChainLies slots place id ps → is_available (wrap_of (length slots) place) (slot_at slots place) ≡ true
chain-available slots place id [] some h = absurd (omega arith)
chain-available slots place id (p ∷ ps) some h =
    let marks = waiting-marks (slot_at slots place) id p (is_more ps) (wrap_of (length slots) place) h.0 in
    is_available-same (wrap_of (length slots) place) (slot_at slots place) marks.available_is marks.used_is

-- nothing is available where no chain waits, and else the front is
pub data Ahead (s : Sides) (q : QueueLists) (h : PackedStands s q) : Type 0 where
  no_chain : q.waiting ≡ [] → is_available (wrap_of (length s.slots) s.read) (slot_at s.slots s.read) ≡ false → Ahead s q h
  a_chain : (c : NumberedChain) (rest : List NumberedChain) → q.waiting ≡ c ∷ rest → Front s.slots s.read s.given h.waiting_ids c rest
      → is_available (wrap_of (length s.slots) s.read) (slot_at s.slots s.read) ≡ true → Ahead s q h

ahead_by : (s : Sides) (q : QueueLists) (h : PackedStands s q) (cs : List NumberedChain) → q.waiting ≡ cs → Ahead s q h
ahead_by s q h [] e =
    let none : count_parts q.waiting ≡ 0 = ap count_parts e in
    let counts = h.counts in
    let old = h.flags.old s.read (omega (arith, none, counts.waiting)) (omega (arith, none, counts.waiting, counts.some)) in
    no_chain e (is_available-other (wrap_of (length s.slots) s.read) (slot_at s.slots s.read) old)
ahead_by s q h (c ∷ rest) e =
    let f = front s.slots s.read s.given q.waiting h.waiting_ids c rest e h.waits in
    a_chain c rest e f (chain-available s.slots s.read f.id c.parts f.some f.lies)

pub ahead : (s : Sides) (q : QueueLists) (h : PackedStands s q) → Ahead s q h
ahead s q h = ahead_by s q h q.waiting refl

abbrev pub taken_entry : ℕ → ℕ → ℕ → TakenChain
taken_entry number id count = record { number = number; id = id; count = count }

-- the sides when a chain of an id and a count is taken
abbrev pub next_sides : Sides → ℕ → ℕ → Sides
next_sides s id count = record s {
  read = s.read + count;
  given = s.given + 1;
  taken = s.taken ++ taken_entry s.given id count ∷ [];
}

pub next_stands : (s : Sides) (q : QueueLists) (h : PackedStands s q) (c : NumberedChain) (rest : List NumberedChain) → q.waiting ≡ c ∷ rest
    → (f : Front s.slots s.read s.given h.waiting_ids c rest) → PackedStands (next_sides s f.id (length c.parts)) (with_taken q c rest)
next_stands s q h c rest e f =
    let counts = h.counts in
    let t = taken_entry s.given f.id (length c.parts) in
    let waiting : count_parts q.waiting ≡ length c.parts + count_parts rest = ap count_parts e in
    let number : length q.waiting ≡ suc (length rest) = ap (λ (l : List NumberedChain). length l) e in
    let snoc : count_parts (q.taken ++ c ∷ []) ≡ count_parts q.taken + length c.parts = count-snoc q.taken c in
    let known : Known s.records (c ∷ rest) (f.id ∷ f.more) = subst (λ (l : List ℕ). Known s.records (c ∷ rest) l) f.ids_are (subst (λ (l : List NumberedChain). Known s.records l h.waiting_ids) e h.known_waiting) in
    let ids = ids-snoc s.taken t in
    let more : length (s.taken ++ t ∷ []) ≡ length s.taken + 1 = grind (arith, common_steps) in
    let fewer : length h.waiting_ids ≡ suc (length f.more) = ap (λ (l : List ℕ). length l) f.ids_are in
    record {
      waiting_ids = f.more;
      used_ids = h.used_ids;
      counts = record {
        size = counts.size;
        some = counts.some;
        small = counts.small;
        records_len = counts.records_len;
        added = counts.added;
        placed = counts.placed;
        given = omega (arith, number, counts.given);
        few = counts.few;
        bound = counts.bound;
        written = counts.written;
        read = omega (arith, snoc, counts.read);
        waiting = omega (arith, waiting, counts.waiting);
        fits = counts.fits;
      };
      waits = f.waits;
      takes = taken-snoc s.taken q.taken t c (sym f.numbered) refl f.some h.takes;
      uses = h.uses;
      known_waiting = known.2;
      known_taken = subst (λ (l : List ℕ). Known s.records (q.taken ++ c ∷ []) l) (sym ids) (known-snoc s.records q.taken (taken_ids s.taken) c f.id known.0 known.1 h.known_taken);
      known_used = h.known_used;
      ids = record {
        once = λ d.
            let first : occurs d h.waiting_ids ≡ one_if (f.id == d) + occurs d f.more = ap (occurs d) f.ids_are in
            let last : occurs d (taken_ids (s.taken ++ t ∷ [])) ≡ one_if (f.id == d) + occurs d (taken_ids s.taken) = ap (occurs d) ids ∙ occurs-snoc d (taken_ids s.taken) f.id in
            let once = h.ids.once d in
            omega (arith, first, last, once);
        count = let count = h.ids.count in omega (arith, count, more, fewer);
      };
      flags = record { old = h.flags.old; unused = h.flags.unused };
    }

-- USED

-- the sides when a taken chain is used
abbrev pub used_sides : Sides → ℕ → TakenChain → ℕ → Sides
used_sides s number t len = record s {
  slots = with_slot s.slots s.written (used_slot t.id len (wrap_of (length s.slots) s.written));
  written = s.written + t.count;
  taken = without_taken number s.taken;
}

used-alike : (slots : List Slot) (written from m : ℕ) (slot : Slot) → 0 < length slots → (from + m ≤ written) ⊎ (written < from) → written < from + length slots → from + m ≤ written + length slots
    → AreAlike slots (with_slot slots written slot) from m
used-alike slots written from m slot some (inl below) near far = record {
  len = length-with_slot slots written slot;
  same = λ p low high. slot-other slots written p slot (λ e. apart (length slots) p written some (omega arith) (omega arith) e);
}
used-alike slots written from m slot some (inr above) near far = record {
  len = length-with_slot slots written slot;
  same = λ p low high. slot-other slots written p slot (λ e. apart_back (length slots) written p some (omega arith) (omega arith) e);
}

used-old : (s : Sides) (q : QueueLists) (id len : ℕ) (h : PackedStands s q) → s.written < s.placed
    → (p : ℕ) → s.placed ≤ p → p < s.placed + length s.slots
    → has_available (slot_at (with_slot s.slots s.written (used_slot id len (wrap_of (length s.slots) s.written))) p) ≡ not (wrap_of (length s.slots) p)
used-old s q id len h taken p low high =
    let counts = h.counts in
    let slot = used_slot id len (wrap_of (length s.slots) s.written) in
    let slots = with_slot s.slots s.written slot in
    let size : length slots ≡ length s.slots = length-with_slot s.slots s.written slot in
    let lap : (s.written + length s.slots) % length s.slots ≡ s.written % length s.slots = add-mod_right s.written (length s.slots) in
    let stays : (p % length s.slots ≡ s.written % length s.slots → ⊥) → has_available (slot_at slots p) ≡ not (wrap_of (length s.slots) p) =
    λ other. ap has_available (slot-other s.slots s.written p slot other) ∙ h.flags.old p low high in
    elim (cases_lt p (s.written + length s.slots)) [
      | inl before ↦ stays (λ e. apart_back (length s.slots) s.written p counts.some (omega arith) before e)
      | inr from ↦ elim (cases_lt (s.written + length s.slots) p) [
        | inl behind ↦ stays (λ e. apart_back (length s.slots) (s.written + length s.slots) p counts.some behind (omega (arith, counts.fits, counts.written)) (e ∙ sym lap))
        | inr at ↦
            (let here : p ≡ s.written + length s.slots = omega arith in
            let marks = used-marks (slot_at slots s.written) id len (wrap_of (length s.slots) s.written) (slot-here s.slots s.written slot counts.some) in
            let there : slot_at slots p ≡ slot_at slots s.written = ap (slot_at slots) (here ∙ ap (λ (k : ℕ). s.written + k) (sym size)) ∙ slot-lap slots s.written in
            let wraps : wrap_of (length s.slots) p ≡ not (wrap_of (length s.slots) s.written) = ap (wrap_of (length s.slots)) here ∙ wrap-lap (length s.slots) s.written counts.some in
            ap has_available there ∙ marks.available_is ∙ not-not (wrap_of (length s.slots) s.written) ∙ ap not (sym wraps))
      ]
    ]

pub used_stands : (s : Sides) (q : QueueLists) (h : PackedStands s q) (number : ℕ) (t : TakenChain) (len : ℕ) → (r : Removed number t s.taken q.taken s.records)
    → PackedStands (used_sides s number t len) (with_used q r.chain len)
used_stands s q h number t len r =
    let counts = h.counts in
    let n : ℕ = length s.slots in
    let slot = used_slot t.id len (wrap_of (length s.slots) s.written) in
    let slots = with_slot s.slots s.written slot in
    let size : length slots ≡ length s.slots = length-with_slot s.slots s.written slot in
    let f : FinishedChain = record { chain = r.chain; len = len } in
    let some = r.some in
    let count = r.count in
    let parts = r.parts in
    let taken : s.written < s.placed = omega (arith, some, parts, counts.read, counts.waiting) in
    let rest : without_chain number q.taken ≡ without_chain r.chain.number q.taken = ap (λ (k : ℕ). without_chain k q.taken) (sym r.named) in
    let snoc : count_parts (finished_chains (q.used ++ f ∷ [])) ≡ count_parts (finished_chains q.used) + length r.chain.parts = ap count_parts (finished-snoc q.used f) ∙ count-snoc (finished_chains q.used) r.chain in
    let left : count_parts (without_chain r.chain.number q.taken) ≡ count_parts (without_chain number q.taken) = ap count_parts (sym rest) in
    let more_ids : length (h.used_ids ++ t.id ∷ []) ≡ length h.used_ids + 1 = grind (arith, common_steps) in
    let uses_before = uses-kept s.slots slots s.reclaimed q.used h.used_ids (used-alike s.slots s.written s.reclaimed (count_parts (finished_chains q.used)) slot counts.some (inl (omega (arith, counts.written))) (omega (arith, taken, counts.fits)) (omega (arith, counts.written))) h.uses in
    let here : slot_at slots s.written ≡ used_slot t.id len (wrap_of (length slots) s.written) = slot-here s.slots s.written slot counts.some ∙ ap (λ (k : ℕ). used_slot t.id len (wrap_of k s.written)) (sym size) in
    let stands_at = subst (λ (k : ℕ). slot_at slots k ≡ used_slot t.id len (wrap_of (length slots) k)) (sym counts.written) here in
    let finished : finished_chains (q.used ++ f ∷ []) ≡ finished_chains q.used ++ r.chain ∷ [] = finished-snoc q.used f in
    record {
      waiting_ids = h.waiting_ids;
      used_ids = h.used_ids ++ t.id ∷ [];
      counts = record {
        size = counts.size ∙ sym size;
        some = omega (arith, size, counts.some);
        small = omega (arith, size, counts.small);
        records_len = counts.records_len ∙ sym size;
        added = counts.added;
        placed = counts.placed;
        given = counts.given;
        few = counts.few;
        bound = counts.bound;
        written = omega (arith, snoc, count, counts.written);
        read = omega (arith, left, parts, count, counts.read);
        waiting = counts.waiting;
        fits = omega (arith, size, counts.fits);
      };
      waits = waits-kept s.slots slots s.read s.given q.waiting h.waiting_ids (used-alike s.slots s.written s.read (count_parts q.waiting) slot counts.some (inr (omega (arith, some, parts, counts.read))) (omega (arith, counts.read, counts.some)) (omega (arith, counts.waiting, counts.fits, counts.written))) h.waits;
      takes = subst (λ (l : List NumberedChain). AreTaken (without_taken number s.taken) l) rest r.takes;
      uses = uses-snoc slots s.reclaimed q.used h.used_ids f t.id some stands_at uses_before;
      known_waiting = h.known_waiting;
      known_taken = subst (λ (l : List NumberedChain). Known s.records l (taken_ids (without_taken number s.taken))) rest r.known;
      known_used = subst (λ (l : List NumberedChain). Known s.records l (h.used_ids ++ t.id ∷ [])) (sym finished) (known-snoc s.records (finished_chains q.used) h.used_ids r.chain t.id r.within r.recorded h.known_used);
      ids = record {
        once = λ d.
            let out : occurs d (taken_ids s.taken) ≡ one_if (t.id == d) + occurs d (taken_ids (without_taken number s.taken)) = r.ids d in
            let back : occurs d (h.used_ids ++ t.id ∷ []) ≡ one_if (t.id == d) + occurs d h.used_ids = occurs-snoc d h.used_ids t.id in
            let once = h.ids.once d in
            let moved : occurs d s.free + (occurs d h.waiting_ids + (occurs d (taken_ids (without_taken number s.taken)) + occurs d (h.used_ids ++ t.id ∷ []))) ≡ one_if (nat_lt d (length s.slots)) = omega (arith, out, back, once) in
            moved ∙ ap (λ (k : ℕ). one_if (nat_lt d k)) (sym size);
        count = let all = h.ids.count in let fewer = r.len in omega (arith, all, more_ids, fewer, size);
      };
      flags = record {
        old = λ p low high. used-old s q t.id len h taken p low (omega (arith, high, size)) ∙ ap (λ (k : ℕ). not (wrap_of k p)) (sym size);
        unused = λ p low high.
            let stays : slot_at slots p ≡ slot_at s.slots p = slot-other s.slots s.written p slot (λ e. apart_back (length s.slots) s.written p counts.some (omega (arith, low, some, count)) (omega (arith, high, counts.fits, counts.written)) e) in
            ap has_used stays ∙ h.flags.unused p (omega (arith, low)) high ∙ ap (λ (k : ℕ). not (wrap_of k p)) (sym size);
      };
    }

-- RECLAIM

-- the chain at the front of those that were used
pub record UsedFront (slots : List Slot) (place : ℕ) (ids : List ℕ) (f : FinishedChain) (rest : List FinishedChain) : Type 0 where
  pub id : ℕ
  pub more : List ℕ
  pub ids_are : ids ≡ id ∷ more
  pub some : 0 < length f.chain.parts
  pub lies : slot_at slots place ≡ used_slot id f.len (wrap_of (length slots) place)
  pub uses : UsedLie slots (place + length f.chain.parts) rest more

used_front_of : (slots : List Slot) (place : ℕ) (ids : List ℕ) (f : FinishedChain) (rest : List FinishedChain) → UsedLie slots place (f ∷ rest) ids → UsedFront slots place ids f rest
used_front_of slots place [] f rest h = absurd h
used_front_of slots place (id ∷ more) f rest h = record { id = id; more = more; ids_are = refl; some = h.1; lies = h.0; uses = h.2 }

pub data Behind (s : Sides) (q : QueueLists) (h : PackedStands s q) : Type 0 where
  no_used : q.used ≡ [] → is_used (wrap_of (length s.slots) s.reclaimed) (slot_at s.slots s.reclaimed) ≡ false → Behind s q h
  a_used : (f : FinishedChain) (rest : List FinishedChain) → q.used ≡ f ∷ rest → UsedFront s.slots s.reclaimed h.used_ids f rest
      → is_used (wrap_of (length s.slots) s.reclaimed) (slot_at s.slots s.reclaimed) ≡ true → Behind s q h

behind_by : (s : Sides) (q : QueueLists) (h : PackedStands s q) (fs : List FinishedChain) → q.used ≡ fs → Behind s q h
behind_by s q h [] e =
    let counts = h.counts in
    let none : count_parts (finished_chains q.used) ≡ 0 = ap (λ (l : List FinishedChain). count_parts (finished_chains l)) e in
    elim (cases_lt s.reclaimed s.placed) [
      | inl out ↦
          (let unused = h.flags.unused s.reclaimed (omega (arith, none, counts.written)) out in
          no_used e (is_used-other (wrap_of (length s.slots) s.reclaimed) (slot_at s.slots s.reclaimed) unused))
      | inr all ↦
          (let old = h.flags.old s.reclaimed all (omega (arith, counts.written, counts.read, counts.waiting, counts.some)) in
          no_used e (is_used-old (wrap_of (length s.slots) s.reclaimed) (slot_at s.slots s.reclaimed) old))
    ]
behind_by s q h (f ∷ rest) e =
    let u = used_front_of s.slots s.reclaimed h.used_ids f rest (subst (λ (l : List FinishedChain). UsedLie s.slots s.reclaimed l h.used_ids) e h.uses) in
    let marks = used-marks (slot_at s.slots s.reclaimed) u.id f.len (wrap_of (length s.slots) s.reclaimed) u.lies in
    a_used f rest e u (is_used-same (wrap_of (length s.slots) s.reclaimed) (slot_at s.slots s.reclaimed) marks.available_is marks.used_is)

pub behind : (s : Sides) (q : QueueLists) (h : PackedStands s q) → Behind s q h
behind s q h = behind_by s q h q.used refl

-- the sides when a chain of an id and a count is reclaimed
abbrev pub reclaimed_sides : Sides → ℕ → ℕ → Sides
reclaimed_sides s id count = record s {
  reclaimed = s.reclaimed + count;
  free = s.free ++ id ∷ [];
}

-- what the driver knows of the chain that it reclaims
pub used_known : (s : Sides) (q : QueueLists) (h : PackedStands s q) (f : FinishedChain) (rest : List FinishedChain) → q.used ≡ f ∷ rest
    → (u : UsedFront s.slots s.reclaimed h.used_ids f rest) → Known s.records (f.chain ∷ finished_chains rest) (u.id ∷ u.more)
used_known s q h f rest e u =
    subst (λ (l : List ℕ). Known s.records (f.chain ∷ finished_chains rest) l) u.ids_are (subst (λ (l : List FinishedChain). Known s.records (finished_chains l) h.used_ids) e h.known_used)

pub reclaim_stands : (s : Sides) (q : QueueLists) (h : PackedStands s q) (f : FinishedChain) (rest : List FinishedChain) → q.used ≡ f ∷ rest
    → (u : UsedFront s.slots s.reclaimed h.used_ids f rest) → PackedStands (reclaimed_sides s u.id (length f.chain.parts)) (with_reclaimed q rest)
reclaim_stands s q h f rest e u =
    let counts = h.counts in
    let known = used_known s q h f rest e u in
    let used : count_parts (finished_chains q.used) ≡ length f.chain.parts + count_parts (finished_chains rest) = ap (λ (l : List FinishedChain). count_parts (finished_chains l)) e in
    let more : length (s.free ++ u.id ∷ []) ≡ length s.free + 1 = grind (arith, common_steps) in
    let fewer : length h.used_ids ≡ suc (length u.more) = ap (λ (l : List ℕ). length l) u.ids_are in
    record {
      waiting_ids = h.waiting_ids;
      used_ids = u.more;
      counts = record {
        size = counts.size;
        some = counts.some;
        small = counts.small;
        records_len = counts.records_len;
        added = counts.added;
        placed = counts.placed;
        given = counts.given;
        few = counts.few;
        bound = counts.bound;
        written = omega (arith, used, counts.written);
        read = counts.read;
        waiting = counts.waiting;
        fits = omega (arith, counts.fits);
      };
      waits = h.waits;
      takes = h.takes;
      uses = u.uses;
      known_waiting = h.known_waiting;
      known_taken = h.known_taken;
      known_used = known.2;
      ids = record {
        once = λ d.
            let first : occurs d h.used_ids ≡ one_if (u.id == d) + occurs d u.more = ap (occurs d) u.ids_are in
            let last : occurs d (s.free ++ u.id ∷ []) ≡ one_if (u.id == d) + occurs d s.free = occurs-snoc d s.free u.id in
            let once = h.ids.once d in
            omega (arith, first, last, once);
        count = let count = h.ids.count in omega (arith, count, more, fewer);
      };
      flags = record { old = h.flags.old; unused = h.flags.unused };
    }
