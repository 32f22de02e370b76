-- The first chain that waits is taken: what that leaves stands for the lists after it.
use Rattle.std.proofs.Common.{◌≡◌, ℕ, suc, ◌+◌, ◌%◌, ◌<◌, ◌≤◌, ◌==◌, Bool, false, if◌then◌else◌, nat_lt, List, [], ◌∷◌, ◌++◌, length, Option, Some, None, Result, Ok, Err, refl, sym, ap, subst, ◌∙◌, arith}
use Rattle.std.proofs.Math.Nat.{div-one}
use Rattle.std.proofs.lemmas.Bool.Decides.{nat_tests}
use Rattle.byteorder.specs.Endian.{little_bytes}
use Rattle.byteorder.specs.Numbers.{little_from-bytes}
use Rattle.vd_model.specs.Memory.{Memory, read}
use Rattle.vd_model.specs.Rings.{minus16, next16, number16, number16_of, available_index_at, available_slot_at}
use Rattle.vd_model.specs.RingTurns.{first_of}
use Rattle.vd_model.specs.Trace.{trace_start, ending_of, whole, chain_of}
use Rattle.vd_model.specs.declared.parts.Chain.{Chain}
use Rattle.vd_model.specs.declared.queue.RingPlace.{RingPlace}
use Rattle.vr_device.specs.Side.{Side}
use Rattle.vr_device.specs.Device.{next_of, next_by, pop_of, popped}
use Rattle.vr_device.specs.declared.error.PopError.{PopError}
use Rattle.vr_device.specs.declared.error.PopError.TheVariants.{Ahead}
use Rattle.vd_ring_laws.proofs.Traces.{trace_law}
use Rattle.vr_pair.specs.QueueLists.{NumberedChain, QueueLists, count_parts, finished_chains, with_taken}
use Rattle.vr_split_pair.specs.Lies.{WaitsAt, Waits, IsKnown, Known, heads_of, taken_heads, one_if, occurs}
use Rattle.vr_split_pair.specs.Split.{Sides, SplitStands}
use Rattle.vr_split_pair.proofs.Fields.{slot-same}
use Rattle.vr_split_pair.proofs.Chains.{known-few, known-snoc, takes-snoc, taken_heads-snoc, occurs-snoc, length-snoc, count-snoc, length-finished}
use Rattle.vr_split_pair.proofs.Owners.{same-number, other-number}
use Rattle.vr_split_pair.proofs.Added.{first_low}

-- a number of two bytes is read back modulo 65,536
pub number-back : (m : Memory) (at n : ℕ) → read m at 2 ≡ Ok (little_bytes 2 n) → number16 m at ≡ Ok (n % 65536)
number-back m at n e = ap number16_of e ∙ ap Ok (little_from-bytes 2 0 n [] ∙ ap (λ (y : ℕ). y % 65536) (div-one n))

-- the first of the chains that wait
pub record Front (s : Sides) (index : ℕ) (chain : NumberedChain) (rest : List NumberedChain) (dss : List (List ℕ)) : Type 0 where
  pub descriptors : List ℕ
  pub others : List (List ℕ)
  pub are : dss ≡ descriptors ∷ others
  pub waits : WaitsAt s.memory s.driver.place s.driver.owners index chain descriptors
  pub waits_rest : Waits s.memory s.driver.place s.driver.owners (index + 1) rest others
  pub known : IsKnown s.driver.owners s.driver.announced s.numbers chain (first_of descriptors)
  pub known_rest : Known s.driver.owners s.driver.announced s.numbers rest (heads_of others)

front_of : (s : Sides) (index : ℕ) (chain : NumberedChain) (rest : List NumberedChain) (dss : List (List ℕ))
    → Waits s.memory s.driver.place s.driver.owners index (chain ∷ rest) dss → Known s.driver.owners s.driver.announced s.numbers (chain ∷ rest) (heads_of dss) → Front s index chain rest dss
front_of s index chain rest [] w k = absurd w
front_of s index chain rest (ds ∷ dss) w k = record { descriptors = ds; others = dss; are = refl; waits = w.0; waits_rest = w.1; known = k.0; known_rest = k.1 }

pub front : (s : Sides) (q : QueueLists) (h : SplitStands s q) (chain : NumberedChain) (rest : List NumberedChain) → q.waiting ≡ chain ∷ rest → Front s h.course.given chain rest h.descriptors
front s q h chain rest e =
    front_of s h.course.given chain rest h.descriptors
    (subst (λ (l : List NumberedChain). Waits s.memory s.driver.place s.driver.owners h.course.given l h.descriptors) e h.waits)
    (subst (λ (l : List NumberedChain). Known s.driver.owners s.driver.announced s.numbers l (heads_of h.descriptors)) e h.known_waiting)

-- THE CHAIN IS TAKEN

abbrev pub taken_sides : Sides → ℕ → ℕ → Sides
taken_sides s number head = record s { device = record s.device { position = next16 s.device.position }; taken = s.taken ++ record { number = number; head = head } ∷ [] }

module _ (s : Sides) (q : QueueLists) (h : SplitStands s q) (chain : NumberedChain) (rest : List NumberedChain) (e : q.waiting ≡ chain ∷ rest) where
  abbrev f : Front s h.course.given chain rest h.descriptors
  f = front s q h chain rest e

  abbrev head : ℕ
  head = first_of f.descriptors

  moved_once : (d : ℕ) → occurs d (heads_of f.others) + (occurs d (taken_heads (s.taken ++ record { number = chain.number; head = head } ∷ [])) + occurs d h.used_heads) ≤ 1
  moved_once d =
      let old = h.once d in
      let first : occurs d (heads_of h.descriptors) ≡ one_if (head == d) + occurs d (heads_of f.others) = ap (λ (l : List (List ℕ)). occurs d (heads_of l)) f.are in
      let second : occurs d (taken_heads (s.taken ++ record { number = chain.number; head = head } ∷ [])) ≡ one_if (head == d) + occurs d (taken_heads s.taken) =
      ap (occurs d) (taken_heads-snoc s.taken (record { number = chain.number; head = head })) ∙ occurs-snoc d (taken_heads s.taken) head in
      omega (arith, old, first, second)

  pub taken_stands : SplitStands (taken_sides s chain.number head) (with_taken q chain rest)
  taken_stands =
      let c = h.counts in
      let one : length q.waiting ≡ suc (length rest) = ap (λ (l : List NumberedChain). length l) e in
      let parts : count_parts q.waiting ≡ length chain.parts + count_parts rest = ap count_parts e in
      let longer = length-snoc q.taken chain in
      let count = count-snoc q.taken chain in
      let waiting = c.waiting in
      let given = c.given in
      record {
        descriptors = f.others;
        used_heads = h.used_heads;
        course = record h.course { given = h.course.given + 1 };
        laid = h.laid;
        there = h.there;
        counts = record {
          size = c.size;
          same_place = c.same_place;
          added = c.added;
          placed = c.placed;
          few = c.few;
          bound = c.bound;
          finished = c.finished;
          given = omega (arith, given, longer);
          waiting = omega (arith, waiting, one);
          driver_added = c.driver_added;
          driver_published = c.driver_published;
          driver_reclaimed = c.driver_reclaimed;
          device_position = (let p = c.device_position in omega (arith, p));
          device_used = c.device_used;
        };
        indices = h.indices;
        waits = f.waits_rest;
        takes = takes-snoc s.taken q.taken (record { number = chain.number; head = head }) chain refl h.takes;
        uses = h.uses;
        known_waiting = f.known_rest;
        known_taken = subst (λ (heads : List ℕ). Known s.driver.owners s.driver.announced s.numbers (q.taken ++ chain ∷ []) heads) (sym (taken_heads-snoc s.taken (record { number = chain.number; head = head })))
            (known-snoc s.driver.owners s.driver.announced s.numbers q.taken (taken_heads s.taken) chain head f.known h.known_taken);
        known_used = h.known_used;
        once = moved_once;
        owners = record {
          owners_len = h.owners.owners_len;
          announced_len = h.owners.announced_len;
          numbers_len = h.owners.numbers_len;
          headed = h.owners.headed;
          free = (let all = h.owners.free in omega (arith, all, parts, count));
        };
      }

-- WHAT THE DEVICE FINDS

-- the chains that are out are no more than the descriptors
pub record Few (s : Sides) (q : QueueLists) : Type 0 where
  pub all : length q.waiting + (length q.taken + length q.used) ≤ s.driver.place.size
  pub small : s.driver.place.size ≤ 32768

pub few : (s : Sides) (q : QueueLists) → SplitStands s q → Few s q
few s q h =
    let waiting = known-few s.driver.owners s.driver.announced s.numbers q.waiting (heads_of h.descriptors) h.known_waiting in
    let taken = known-few s.driver.owners s.driver.announced s.numbers q.taken (taken_heads s.taken) h.known_taken in
    let used = known-few s.driver.owners s.driver.announced s.numbers (finished_chains q.used) h.used_heads h.known_used in
    let len = length-finished q.used in
    let all = h.owners.free in
    record { all = omega (arith, waiting, taken, used, len, all); small = h.laid.small }

pub not_less : (a b : ℕ) → b ≤ a → nat_lt a b ≡ false
not_less a b h = grind (arith, nat_tests)

-- the answer by the tests of the index that was found
abbrev tested : Memory → Side → ℕ → Bool → Bool → Result (Option Chain) PopError
tested m side found same far =
    if same then Ok None else if far then Err (Ahead found side.position) else pop_of m side.place false (number16 m (available_slot_at side.place side.position))

-- no chain, where none waits
pub none_next : (s : Sides) (q : QueueLists) → SplitStands s q → q.waiting ≡ [] → next_of s.memory s.device false ≡ Ok None
none_next s q h e =
    let c = h.counts in
    let none : length q.waiting ≡ 0 = ap (λ (l : List NumberedChain). length l) e in
    let waiting = c.waiting in
    let position = c.device_position in
    let place : s.device.place ≡ s.driver.place = c.same_place in
    let found : number16 s.memory (available_index_at s.device.place) ≡ Ok (s.added % 65536) = ap (λ (r : RingPlace). number16 s.memory (available_index_at r)) place ∙ number-back s.memory (available_index_at s.driver.place) s.added h.indices.available in
    let counted : s.added ≡ h.course.given = omega (arith, waiting, none) in
    let same : s.added % 65536 ≡ s.device.position = ap (λ (n : ℕ). n % 65536) counted ∙ sym position in
    ap (next_by s.memory s.device false) found
    ∙ ap (λ (b : Bool). tested s.memory s.device (s.added % 65536) b (nat_lt s.device.place.size (minus16 (s.added % 65536) s.device.position))) (same-number (s.added % 65536) s.device.position same)

-- how far an index is ahead
ahead_by : (added given n : ℕ) → given + n ≡ added → 0 < n → n ≤ 32768 → (added % 65536 ≡ given % 65536 → ⊥) × (minus16 (added % 65536) (given % 65536) ≡ n)
ahead_by added given n e some few = ((λ same. omega (arith, e, some, few, same)), omega (arith, e, some, few))

-- the first chain, where one waits
pub one_next : (s : Sides) (q : QueueLists) (h : SplitStands s q) (chain : NumberedChain) (rest : List NumberedChain) (e : q.waiting ≡ chain ∷ rest)
    → next_of s.memory s.device false ≡ Ok (Some (chain_of (first_of (front s q h chain rest e).descriptors) chain.parts))
one_next s q h chain rest e =
    let c = h.counts in
    let f = front s q h chain rest e in
    let one : length q.waiting ≡ suc (length rest) = ap (λ (l : List NumberedChain). length l) e in
    let waiting = c.waiting in
    let position : s.device.position ≡ h.course.given % 65536 = c.device_position in
    let place : s.device.place ≡ s.driver.place = c.same_place in
    let fits = few s q h in
    let all = fits.all in
    let small = fits.small in
    let ahead = ahead_by s.added h.course.given (length q.waiting) waiting (omega arith) (omega arith) in
    let found : number16 s.memory (available_index_at s.device.place) ≡ Ok (s.added % 65536) = ap (λ (r : RingPlace). number16 s.memory (available_index_at r)) place ∙ number-back s.memory (available_index_at s.driver.place) s.added h.indices.available in
    let differs : s.added % 65536 ≡ s.device.position → ⊥ = λ same. ahead.0 (same ∙ position) in
    let size : s.device.place.size ≡ s.driver.place.size = ap (λ (r : RingPlace). r.size) place in
    let by : minus16 (s.added % 65536) s.device.position ≡ length q.waiting = ap (minus16 (s.added % 65536)) position ∙ ahead.1 in
    let near : nat_lt s.device.place.size (minus16 (s.added % 65536) s.device.position) ≡ false = not_less s.device.place.size (minus16 (s.added % 65536) s.device.position) (omega (arith, by, size, all)) in
    let w = f.waits.written in
    let inside : first_of f.descriptors < s.driver.place.size = first_low s.memory s.driver.place chain.parts f.descriptors w in
    let head : first_of f.descriptors % 65536 ≡ first_of f.descriptors = omega (arith, inside, small) in
    let slot : number16 s.memory (available_slot_at s.device.place s.device.position) ≡ Ok (first_of f.descriptors) =
    ap (λ (r : RingPlace). number16 s.memory (available_slot_at r s.device.position)) place
    ∙ ap (λ (k : ℕ). number16 s.memory (available_slot_at s.driver.place k)) position
    ∙ ap (number16 s.memory) (slot-same s.driver.place h.laid h.course.given)
    ∙ number-back s.memory (available_slot_at s.driver.place h.course.given) (first_of f.descriptors) f.waits.slot
    ∙ ap Ok head in
    let traced : ending_of (trace_start s.device.place (first_of f.descriptors) false) s.memory ≡ whole (chain_of (first_of f.descriptors) chain.parts) =
    ap (λ (r : RingPlace). ending_of (trace_start r (first_of f.descriptors) false) s.memory) place ∙ trace_law s.memory s.driver.place chain.parts f.descriptors false w in
    ap (next_by s.memory s.device false) found
    ∙ ap (λ (b : Bool). tested s.memory s.device (s.added % 65536) b (nat_lt s.device.place.size (minus16 (s.added % 65536) s.device.position))) (other-number (s.added % 65536) s.device.position differs)
    ∙ ap (tested s.memory s.device (s.added % 65536) false) near
    ∙ ap (pop_of s.memory s.device.place false) slot
    ∙ ap popped traced
