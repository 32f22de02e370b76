-- A chain that is taken is used: what that leaves stands for the lists after it.
use Rattle.std.proofs.Common.{◌≡◌, ℕ, suc, ◌+◌, ◌*◌, ◌^◌, ◌<◌, ◌≤◌, ◌==◌, Bool, true, false, List, [], ◌∷◌, ◌++◌, length, Option, Some, None, refl, sym, ap, subst, ◌∙◌, inl, inr, arith}
use Rattle.std.proofs.Math.Nat.{mod-lt}
use Rattle.vd_model.specs.Memory.{Memory}
use Rattle.vd_model.specs.Rings.{next16, available_index_at, available_slot_at}
use Rattle.vd_model.specs.declared.queue.RingPlace.{RingPlace}
use Rattle.vr_device.specs.Device.{with_used}
use Rattle.vr_pair.specs.QueueLists.{NumberedChain, FinishedChain, QueueLists, count_parts, finished_chains, numbered_chain, without_chain, with_used as lists_used}
use Rattle.vr_split_pair.specs.declared.chain.TakenChain.{TakenChain}
use Rattle.vr_split_pair.specs.Lies.{IsKnown, Known, AreTaken, heads_of, taken_heads, taken_of, without_taken, one_if, occurs}
use Rattle.vr_split_pair.specs.Split.{Sides, SplitStands}
use Rattle.vr_split_pair.proofs.Fields.{available_index-plain, slot-plain}
use Rattle.vr_split_pair.proofs.Owners.{either, same-test}
use Rattle.vr_split_pair.proofs.Chains.{waits-kept, uses-kept, uses-snoc, known-snoc, occurs-snoc, length-snoc, count-snoc, finished-snoc}
use Rattle.vr_split_pair.proofs.Writes.{Used, used_memory, given_back-is}
use Rattle.vr_split_pair.proofs.Taken.{few}

-- the first of two chains, when it is of the number, and when it isn't
test-same : (number : ℕ) (t : TakenChain) (c : NumberedChain) (b : Bool) → t.number ≡ c.number → (t.number == number) ≡ b → (c.number == number) ≡ b
test-same number t c b e h = ap (λ (n : ℕ). n == number) (sym e) ∙ h

none-taken_step : (number : ℕ) (t : TakenChain) (ts : List TakenChain) (c : NumberedChain) (cs : List NumberedChain) → t.number ≡ c.number → taken_of number (t ∷ ts) ≡ None
    → (taken_of number ts ≡ None → (numbered_chain number cs ≡ None) × (without_taken number ts ≡ ts)) → (numbered_chain number (c ∷ cs) ≡ None) × (without_taken number (t ∷ ts) ≡ t ∷ ts)
none-taken_step number t ts c cs same e rest = elim (either (t.number == number)) [
  | inl hit ↦
      (let found : Some t ≡ None = rw hit at e in
      absurd (cc found))
  | inr miss ↦
      (let other : (c.number == number) ≡ false = test-same number t c false same miss in
      let left : taken_of number ts ≡ None = rw miss at e in
      let more = rest left in
      (rw other more.0, rw miss (ap (λ (l : List TakenChain). t ∷ l) more.1)))
]

-- no chain of a number is taken
pub none-taken : (number : ℕ) (ts : List TakenChain) (cs : List NumberedChain) → AreTaken ts cs → taken_of number ts ≡ None → (numbered_chain number cs ≡ None) × (without_taken number ts ≡ ts)
none-taken number [] [] h e = (refl, refl)
none-taken number [] (c ∷ cs) h e = absurd h
none-taken number (t ∷ ts) [] h e = absurd h
none-taken number (t ∷ ts) (c ∷ cs) h e = none-taken_step number t ts c cs h.0 e (none-taken number ts cs h.1)

-- the chain of a number is taken out
pub record Removed (owners : List (Option ℕ)) (announced : List Bool) (numbers : List ℕ) (number : ℕ) (t : TakenChain) (ts : List TakenChain) (cs : List NumberedChain) : Type 0 where
  pub chain : NumberedChain
  pub found : numbered_chain number cs ≡ Some chain
  pub named : chain.number ≡ number
  pub takes : AreTaken (without_taken number ts) (without_chain number cs)
  pub parts : count_parts cs ≡ length chain.parts + count_parts (without_chain number cs)
  pub heads : (d : ℕ) → occurs d (taken_heads ts) ≡ one_if (t.head == d) + occurs d (taken_heads (without_taken number ts))
  pub len : length cs ≡ suc (length (without_chain number cs))
  pub known : IsKnown owners announced numbers chain t.head
  pub known_rest : Known owners announced numbers (without_chain number cs) (taken_heads (without_taken number ts))

module _ (owners : List (Option ℕ)) (announced : List Bool) (numbers : List ℕ) (number : ℕ) (t : TakenChain) where
  removed-here : (x : TakenChain) (xs : List TakenChain) (c : NumberedChain) (cs : List NumberedChain)
      → AreTaken (x ∷ xs) (c ∷ cs) → Known owners announced numbers (c ∷ cs) (taken_heads (x ∷ xs)) → (x.number == number) ≡ true → x ≡ t → Removed owners announced numbers number t (x ∷ xs) (c ∷ cs)
  removed-here x xs c cs h known hit e =
      let also : (c.number == number) ≡ true = test-same number x c true h.0 hit in
      let left : without_taken number (x ∷ xs) ≡ xs = rw hit refl in
      let rest : without_chain number (c ∷ cs) ≡ cs = rw also refl in
      let is : x.number ≡ number = same-test x.number number hit in
      let head : x.head ≡ t.head = ap (λ (y : TakenChain). y.head) e in
      record {
        chain = c;
        found = rw also refl;
        named = sym h.0 ∙ is;
        takes = subst (λ (l : List TakenChain). AreTaken l (without_chain number (c ∷ cs))) (sym left) (subst (λ (l : List NumberedChain). AreTaken xs l) (sym rest) h.1);
        parts = ap (λ (l : List NumberedChain). length c.parts + count_parts l) (sym rest);
        heads = λ d. ap (λ (i : ℕ). one_if (i == d) + occurs d (taken_heads xs)) head ∙ ap (λ (l : List TakenChain). one_if (t.head == d) + occurs d (taken_heads l)) (sym left);
        len = ap (λ (l : List NumberedChain). suc (length l)) (sym rest);
        known = subst (λ (i : ℕ). IsKnown owners announced numbers c i) head known.0;
        known_rest = subst (λ (l : List TakenChain). Known owners announced numbers (without_chain number (c ∷ cs)) (taken_heads l)) (sym left) (subst (λ (l : List NumberedChain). Known owners announced numbers l (taken_heads xs)) (sym rest) known.1);
      }

  removed-later : (x : TakenChain) (xs : List TakenChain) (c : NumberedChain) (cs : List NumberedChain)
      → AreTaken (x ∷ xs) (c ∷ cs) → Known owners announced numbers (c ∷ cs) (taken_heads (x ∷ xs)) → (x.number == number) ≡ false → Removed owners announced numbers number t xs cs → Removed owners announced numbers number t (x ∷ xs) (c ∷ cs)
  removed-later x xs c cs h known miss r =
      let also : (c.number == number) ≡ false = test-same number x c false h.0 miss in
      let left : without_taken number (x ∷ xs) ≡ x ∷ without_taken number xs = rw miss refl in
      let rest : without_chain number (c ∷ cs) ≡ c ∷ without_chain number cs = rw also refl in
      let parts : length c.parts + count_parts cs ≡ length r.chain.parts + (length c.parts + count_parts (without_chain number cs)) = let p = r.parts in omega (arith, p) in
      let kept : AreTaken (x ∷ without_taken number xs) (c ∷ without_chain number cs) = (h.0, r.takes) in
      let all : Known owners announced numbers (c ∷ without_chain number cs) (taken_heads (x ∷ without_taken number xs)) = (known.0, r.known_rest) in
      record {
        chain = r.chain;
        found = rw also r.found;
        named = r.named;
        takes = subst (λ (l : List TakenChain). AreTaken l (without_chain number (c ∷ cs))) (sym left) (subst (λ (l : List NumberedChain). AreTaken (x ∷ without_taken number xs) l) (sym rest) kept);
        parts = parts ∙ ap (λ (l : List NumberedChain). length r.chain.parts + count_parts l) (sym rest);
        heads = λ d.
            let at : occurs d (taken_heads xs) ≡ one_if (t.head == d) + occurs d (taken_heads (without_taken number xs)) = r.heads d in
            let moved : one_if (x.head == d) + occurs d (taken_heads xs) ≡ one_if (t.head == d) + (one_if (x.head == d) + occurs d (taken_heads (without_taken number xs))) = omega (arith, at) in
            moved ∙ ap (λ (l : List TakenChain). one_if (t.head == d) + occurs d (taken_heads l)) (sym left);
        len = ap suc r.len ∙ ap (λ (l : List NumberedChain). suc (length l)) (sym rest);
        known = r.known;
        known_rest = subst (λ (l : List TakenChain). Known owners announced numbers (without_chain number (c ∷ cs)) (taken_heads l)) (sym left) (subst (λ (l : List NumberedChain). Known owners announced numbers l (taken_heads (x ∷ without_taken number xs))) (sym rest) all);
      }

  removed-step : (x : TakenChain) (xs : List TakenChain) (c : NumberedChain) (cs : List NumberedChain)
      → AreTaken (x ∷ xs) (c ∷ cs) → Known owners announced numbers (c ∷ cs) (taken_heads (x ∷ xs)) → taken_of number (x ∷ xs) ≡ Some t
      → (taken_of number xs ≡ Some t → Removed owners announced numbers number t xs cs) → Removed owners announced numbers number t (x ∷ xs) (c ∷ cs)
  removed-step x xs c cs h known e rest = elim (either (x.number == number)) [
    | inl hit ↦
        (let found : Some x ≡ Some t = rw hit at e in
        let same : x ≡ t = cc found in
        removed-here x xs c cs h known hit same)
    | inr miss ↦
        (let left : taken_of number xs ≡ Some t = rw miss at e in
        removed-later x xs c cs h known miss (rest left))
  ]

  pub removed : (ts : List TakenChain) (cs : List NumberedChain) → AreTaken ts cs → Known owners announced numbers cs (taken_heads ts) → taken_of number ts ≡ Some t → Removed owners announced numbers number t ts cs
  removed [] [] h known e = absurd (cc e)
  removed [] (c ∷ cs) h known e = absurd h
  removed (x ∷ xs) [] h known e = absurd h
  removed (x ∷ xs) (c ∷ cs) h known e = removed-step x xs c cs h known e (removed xs cs h.1 known.1)

-- the chain of a number, of those that are taken
pub taken_out : (s : Sides) (q : QueueLists) (h : SplitStands s q) (number : ℕ) (t : TakenChain) → taken_of number s.taken ≡ Some t → Removed s.driver.owners s.driver.announced s.numbers number t s.taken q.taken
taken_out s q h number t e = removed s.driver.owners s.driver.announced s.numbers number t s.taken q.taken h.takes h.known_taken e

-- THE CHAIN IS USED

abbrev pub used_sides : Sides → ℕ → TakenChain → ℕ → Sides
used_sides s number t len = record s {
  memory = with_used s.memory s.device t.head len;
  device = record s.device { used = next16 s.device.used };
  taken = without_taken number s.taken;
}

module _ (s : Sides) (q : QueueLists) (h : SplitStands s q) (number len : ℕ) (t : TakenChain) (short : len < 2 ^ 32) (out : Removed s.driver.owners s.driver.announced s.numbers number t s.taken q.taken) where
  wrote : Used s.memory (used_sides s number t len).memory s.driver.place t.head len h.course.finished
  wrote =
      let place : s.device.place ≡ s.driver.place = h.counts.same_place in
      let at_place : with_used s.memory s.device t.head len ≡ with_used s.memory (record { place = s.driver.place; position = s.device.position; used = s.device.used }) t.head len =
      ap (λ (r : RingPlace). with_used s.memory (record { place = r; position = s.device.position; used = s.device.used }) t.head len) place in
      subst (λ (w : Memory). Used s.memory w s.driver.place t.head len h.course.finished)
      (sym (at_place ∙ given_back-is s.memory s.driver.place h.laid t.head len h.course.finished s.device.used h.counts.device_used))
      (used_memory s.memory s.driver.place h.laid t.head len h.course.finished)

  moved_once : (d : ℕ) → occurs d (heads_of h.descriptors) + (occurs d (taken_heads (without_taken number s.taken)) + occurs d (h.used_heads ++ t.head ∷ [])) ≤ 1
  moved_once d =
      let old = h.once d in
      let first = out.heads d in
      let second = occurs-snoc d h.used_heads t.head in
      omega (arith, old, first, second)

  pub used_stands : SplitStands (used_sides s number t len) (lists_used q out.chain len)
  used_stands =
      let c = h.counts in
      let l = h.laid in
      let driver = l.driver in
      let area = l.device in
      let fits = few s q h in
      let all = fits.all in
      let size = l.some in
      let one = out.len in
      let parts = out.parts in
      let done : FinishedChain = record { chain = out.chain; len = len } in
      let longer = length-snoc q.used done in
      let finished = c.finished in
      let given = c.given in
      let named : without_chain out.chain.number q.taken ≡ without_chain number q.taken = ap (λ (n : ℕ). without_chain n q.taken) out.named in
      let left : length (without_chain out.chain.number q.taken) ≡ length (without_chain number q.taken) = ap (λ (l : List NumberedChain). length l) named in
      let left_parts : count_parts (without_chain out.chain.number q.taken) ≡ count_parts (without_chain number q.taken) = ap count_parts named in
      let used_parts : count_parts (finished_chains (q.used ++ done ∷ [])) ≡ count_parts (finished_chains q.used) + length out.chain.parts = ap count_parts (finished-snoc q.used done) ∙ count-snoc (finished_chains q.used) out.chain in
      record {
        descriptors = h.descriptors;
        used_heads = h.used_heads ++ t.head ∷ [];
        course = record h.course { finished = h.course.finished + 1 };
        laid = l;
        there = wrote.there h.there;
        counts = record {
          size = c.size;
          same_place = c.same_place;
          added = c.added;
          placed = c.placed;
          few = c.few;
          bound = c.bound;
          finished = omega (arith, finished, longer);
          given = omega (arith, given, one, left);
          waiting = c.waiting;
          driver_added = c.driver_added;
          driver_published = c.driver_published;
          driver_reclaimed = c.driver_reclaimed;
          device_position = c.device_position;
          device_used = (let u = c.device_used in omega (arith, u));
        };
        indices = record {
          available = wrote.before (available_index_at s.driver.place) 2 (omega (arith, available_index-plain s.driver.place l, area)) ∙ h.indices.available;
          used = wrote.index;
        };
        waits = waits-kept s.memory (used_sides s number t len).memory s.driver.place s.driver.owners s.driver.owners h.course.given q.waiting h.descriptors (record {
          slots = λ k from to. wrote.before (available_slot_at s.driver.place k) 2 (omega (arith, slot-plain s.driver.place l k, mod-lt k size, area));
          tables = λ d x inside i e. wrote.before (s.driver.place.desc + 16 * d) 16 (omega (arith, inside, driver, area));
          owned = λ d x i e. e;
        }) h.waits;
        takes = subst (λ (l : List NumberedChain). AreTaken (without_taken number s.taken) l) (sym named) out.takes;
        uses = uses-snoc (used_sides s number t len).memory s.driver.place h.course.reclaimed h.course.finished q.used h.used_heads done t.head (sym c.finished) wrote.element short
            (uses-kept s.memory (used_sides s number t len).memory s.driver.place h.course.reclaimed q.used h.used_heads
            (λ k from to. wrote.elements k (omega (arith, finished, to)) (omega (arith, finished, from, to, all, one))) h.uses);
        known_waiting = h.known_waiting;
        known_taken = subst (λ (l : List NumberedChain). Known s.driver.owners s.driver.announced s.numbers l (taken_heads (without_taken number s.taken))) (sym named) out.known_rest;
        known_used = subst (λ (l : List NumberedChain). Known s.driver.owners s.driver.announced s.numbers l (h.used_heads ++ t.head ∷ [])) (sym (finished-snoc q.used done))
            (known-snoc s.driver.owners s.driver.announced s.numbers (finished_chains q.used) h.used_heads out.chain t.head out.known h.known_used);
        once = moved_once;
        owners = record {
          owners_len = h.owners.owners_len;
          announced_len = h.owners.announced_len;
          numbers_len = h.owners.numbers_len;
          headed = h.owners.headed;
          free = (let f = h.owners.free in omega (arith, f, parts, left_parts, used_parts));
        };
      }

-- where no chain of a number is taken, nothing changes
pub unused_stands : (s : Sides) (q : QueueLists) (number : ℕ) → taken_of number s.taken ≡ None → (h : SplitStands s q) → (numbered_chain number q.taken ≡ None) × SplitStands (record s { taken = without_taken number s.taken }) q
unused_stands s q number none h =
    let absent = none-taken number s.taken q.taken h.takes none in
    (absent.0, subst (λ (l : List TakenChain). SplitStands (record s { taken = l }) q) (sym absent.1) h)
