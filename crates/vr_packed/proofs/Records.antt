-- What the sides keep of chains, and their ids.
use Rattle.std.proofs.Common.{◌≡◌, ℕ, suc, ◌+◌, ◌<◌, ◌==◌, Bool, true, false, List, [], ◌∷◌, ◌++◌, length, get_or, Some, None, refl, sym, ap, subst, ◌∙◌, ◌⊎◌, inl, inr, arith}
use Rattle.std.proofs.Math.ListN.{set}
use Rattle.std.proofs.lemmas.Bool.Decides.{nat_tests}
use Rattle.std.proofs.lemmas.List.{length-set, get_or-set_other}
use Rattle.vr_pair.specs.QueueLists.{NumberedChain, count_parts, numbered_chain, without_chain}
use Rattle.vr_packed.specs.declared.chain.ChainRecord.{ChainRecord}
use Rattle.vr_packed.specs.declared.chain.TakenChain.{TakenChain}
use Rattle.vr_packed.specs.Lies.{no_record, record_of, Known, AreTaken, taken_ids, taken_of, without_taken, one_if, occurs}

pub either : (b : Bool) → (b ≡ true) ⊎ (b ≡ false)
either true = inl refl
either false = inr refl

-- IDS

pub occurs-snoc : (d : ℕ) (xs : List ℕ) (x : ℕ) → occurs d (xs ++ x ∷ []) ≡ one_if (x == d) + occurs d xs
occurs-snoc d [] x = refl
occurs-snoc d (y ∷ ys) x = let rest = occurs-snoc d ys x in omega (arith, rest)

-- a number is in a list that begins with it
pub occurs-first : (d : ℕ) (xs : List ℕ) → occurs d (d ∷ xs) ≡ suc (occurs d xs)
occurs-first d xs =
    let same : (d == d) ≡ true = grind (arith, nat_tests) in
    let one : one_if (d == d) ≡ 1 = ap one_if same in
    omega (arith, one)

-- another number than one that isn't in a list
not-first : (d x : ℕ) (xs : List ℕ) → occurs d (x ∷ xs) ≡ 0 → x ≡ d → ⊥
not-first d x xs h e =
    let same : (x == d) ≡ true = grind (arith, nat_tests) in
    let one : one_if (x == d) ≡ 1 = ap one_if same in
    omega (arith, one, h)

-- RECORDS

-- a record for an id that no chain has
pub known-set : (records : List ChainRecord) (id : ℕ) (r : ChainRecord) (cs : List NumberedChain) (ids : List ℕ) → occurs id ids ≡ 0 → Known records cs ids → Known (set records id r) cs ids
known-set records id r [] [] none h = tt
known-set records id r [] (i ∷ is) none h = h
known-set records id r (c ∷ cs) [] none h = h
known-set records id r (c ∷ cs) (i ∷ is) none h =
    let len : length (set records id r) ≡ length records = length-set records id r in
    let within : i < length (set records id r) = omega (arith, len, h.0) in (
      within,
      get_or-set_other records id i r no_record (not-first id i is none) ∙ h.1,
      known-set records id r cs is (omega (arith, none)) h.2,
    )

pub known-snoc : (records : List ChainRecord) (cs : List NumberedChain) (ids : List ℕ) (c : NumberedChain) (id : ℕ) → id < length records → get_or records id no_record ≡ record_of c → Known records cs ids → Known records (cs ++ c ∷ []) (ids ++ id ∷ [])
known-snoc records [] [] c id within here h = (within, here, tt)
known-snoc records [] (i ∷ is) c id within here h = absurd h
known-snoc records (x ∷ xs) [] c id within here h = absurd h
known-snoc records (x ∷ xs) (i ∷ is) c id within here h = (h.0, h.1, known-snoc records xs is c id within here h.2)

-- CHAINS THAT ARE TAKEN

pub taken-snoc : (ts : List TakenChain) (cs : List NumberedChain) (t : TakenChain) (c : NumberedChain) → t.number ≡ c.number → t.count ≡ length c.parts → 0 < length c.parts → AreTaken ts cs → AreTaken (ts ++ t ∷ []) (cs ++ c ∷ [])
taken-snoc [] [] t c number count some h = (number, count, some, tt)
taken-snoc [] (x ∷ xs) t c number count some h = absurd h
taken-snoc (y ∷ ys) [] t c number count some h = absurd h
taken-snoc (y ∷ ys) (x ∷ xs) t c number count some h = (h.0, h.1, h.2, taken-snoc ys xs t c number count some h.3)

pub ids-snoc : (ts : List TakenChain) (t : TakenChain) → taken_ids (ts ++ t ∷ []) ≡ taken_ids ts ++ t.id ∷ []
ids-snoc [] t = refl
ids-snoc (y ∷ ys) t = ap (λ (l : List ℕ). y.id ∷ l) (ids-snoc ys t)

pub length-ids : (ts : List TakenChain) → length (taken_ids ts) ≡ length ts
length-ids [] = refl
length-ids (t ∷ ts) = let rest = length-ids ts in omega (arith, rest)

-- the first of two chains, when it is of the number, and when it isn't
test-same : (number : ℕ) (t : TakenChain) (c : NumberedChain) (b : Bool) → t.number ≡ c.number → (t.number == number) ≡ b → (c.number == number) ≡ b
test-same number t c b e h = ap (λ (n : ℕ). n == number) (sym e) ∙ h

none-taken_step : (number : ℕ) (t : TakenChain) (ts : List TakenChain) (c : NumberedChain) (cs : List NumberedChain) → t.number ≡ c.number → taken_of number (t ∷ ts) ≡ None
    → (taken_of number ts ≡ None → (numbered_chain number cs ≡ None) × (without_taken number ts ≡ ts)) → (numbered_chain number (c ∷ cs) ≡ None) × (without_taken number (t ∷ ts) ≡ t ∷ ts)
none-taken_step number t ts c cs same e rest = elim (either (t.number == number)) [
  | inl hit ↦
      (let found : Some t ≡ None = rw hit at e in
      absurd (cc found))
  | inr miss ↦
      (let other : (c.number == number) ≡ false = test-same number t c false same miss in
      let left : taken_of number ts ≡ None = rw miss at e in
      let more = rest left in
      (rw other more.0, rw miss (ap (λ (l : List TakenChain). t ∷ l) more.1)))
]

-- no chain of a number is taken
pub none-taken : (number : ℕ) (ts : List TakenChain) (cs : List NumberedChain) → AreTaken ts cs → taken_of number ts ≡ None → (numbered_chain number cs ≡ None) × (without_taken number ts ≡ ts)
none-taken number [] [] h e = (refl, refl)
none-taken number [] (c ∷ cs) h e = absurd h
none-taken number (t ∷ ts) [] h e = absurd h
none-taken number (t ∷ ts) (c ∷ cs) h e = none-taken_step number t ts c cs h.0 e (none-taken number ts cs h.3)

-- the chain of a number is taken out
pub record Removed (number : ℕ) (t : TakenChain) (ts : List TakenChain) (cs : List NumberedChain) (records : List ChainRecord) : Type 0 where
  pub chain : NumberedChain
  pub found : numbered_chain number cs ≡ Some chain
  pub named : chain.number ≡ number
  pub count : t.count ≡ length chain.parts
  pub some : 0 < length chain.parts
  pub takes : AreTaken (without_taken number ts) (without_chain number cs)
  pub parts : count_parts cs ≡ length chain.parts + count_parts (without_chain number cs)
  pub ids : (d : ℕ) → occurs d (taken_ids ts) ≡ one_if (t.id == d) + occurs d (taken_ids (without_taken number ts))
  pub len : length ts ≡ suc (length (without_taken number ts))
  pub within : t.id < length records
  pub recorded : get_or records t.id no_record ≡ record_of chain
  pub known : Known records (without_chain number cs) (taken_ids (without_taken number ts))

removed-here : (number : ℕ) (t x : TakenChain) (xs : List TakenChain) (c : NumberedChain) (cs : List NumberedChain) (records : List ChainRecord)
    → AreTaken (x ∷ xs) (c ∷ cs) → Known records (c ∷ cs) (taken_ids (x ∷ xs)) → (x.number == number) ≡ true → x ≡ t → Removed number t (x ∷ xs) (c ∷ cs) records
removed-here number t x xs c cs records h known hit e =
    let also : (c.number == number) ≡ true = test-same number x c true h.0 hit in
    let left : without_taken number (x ∷ xs) ≡ xs = rw hit refl in
    let rest : without_chain number (c ∷ cs) ≡ cs = rw also refl in
    let is : x.number ≡ number = grind (arith, nat_tests) in
    let id : x.id ≡ t.id = ap (λ (y : TakenChain). y.id) e in
    let count : t.count ≡ length c.parts = sym (ap (λ (y : TakenChain). y.count) e) ∙ h.1 in
    record {
      chain = c;
      found = rw also refl;
      named = sym h.0 ∙ is;
      count = count;
      some = h.2;
      takes = subst (λ (l : List TakenChain). AreTaken l (without_chain number (c ∷ cs))) (sym left) (subst (λ (l : List NumberedChain). AreTaken xs l) (sym rest) h.3);
      parts = ap (λ (l : List NumberedChain). length c.parts + count_parts l) (sym rest);
      ids = λ d. ap (λ (i : ℕ). one_if (i == d) + occurs d (taken_ids xs)) id ∙ ap (λ (l : List TakenChain). one_if (t.id == d) + occurs d (taken_ids l)) (sym left);
      len = ap (λ (l : List TakenChain). suc (length l)) (sym left);
      within = subst (λ (i : ℕ). i < length records) id known.0;
      recorded = sym (ap (λ (i : ℕ). get_or records i no_record) id) ∙ known.1;
      known = subst (λ (l : List TakenChain). Known records (without_chain number (c ∷ cs)) (taken_ids l)) (sym left) (subst (λ (l : List NumberedChain). Known records l (taken_ids xs)) (sym rest) known.2);
    }

removed-later : (number : ℕ) (t x : TakenChain) (xs : List TakenChain) (c : NumberedChain) (cs : List NumberedChain) (records : List ChainRecord)
    → AreTaken (x ∷ xs) (c ∷ cs) → Known records (c ∷ cs) (taken_ids (x ∷ xs)) → (x.number == number) ≡ false → Removed number t xs cs records → Removed number t (x ∷ xs) (c ∷ cs) records
removed-later number t x xs c cs records h known miss r =
    let also : (c.number == number) ≡ false = test-same number x c false h.0 miss in
    let left : without_taken number (x ∷ xs) ≡ x ∷ without_taken number xs = rw miss refl in
    let rest : without_chain number (c ∷ cs) ≡ c ∷ without_chain number cs = rw also refl in
    let parts : length c.parts + count_parts cs ≡ length r.chain.parts + (length c.parts + count_parts (without_chain number cs)) = let p = r.parts in omega (arith, p) in
    let kept : AreTaken (x ∷ without_taken number xs) (c ∷ without_chain number cs) = (h.0, h.1, h.2, r.takes) in
    let known_rest : Known records (c ∷ without_chain number cs) (taken_ids (x ∷ without_taken number xs)) = (known.0, known.1, r.known) in
    record {
      chain = r.chain;
      found = rw also r.found;
      named = r.named;
      count = r.count;
      some = r.some;
      takes = subst (λ (l : List TakenChain). AreTaken l (without_chain number (c ∷ cs))) (sym left) (subst (λ (l : List NumberedChain). AreTaken (x ∷ without_taken number xs) l) (sym rest) kept);
      parts = parts ∙ ap (λ (l : List NumberedChain). length r.chain.parts + count_parts l) (sym rest);
      ids = λ d.
          let at : occurs d (taken_ids xs) ≡ one_if (t.id == d) + occurs d (taken_ids (without_taken number xs)) = r.ids d in
          let moved : one_if (x.id == d) + occurs d (taken_ids xs) ≡ one_if (t.id == d) + (one_if (x.id == d) + occurs d (taken_ids (without_taken number xs))) = omega (arith, at) in
          moved ∙ ap (λ (l : List TakenChain). one_if (t.id == d) + occurs d (taken_ids l)) (sym left);
      len = ap suc r.len ∙ ap (λ (l : List TakenChain). suc (length l)) (sym left);
      within = r.within;
      recorded = r.recorded;
      known = subst (λ (l : List TakenChain). Known records (without_chain number (c ∷ cs)) (taken_ids l)) (sym left) (subst (λ (l : List NumberedChain). Known records l (taken_ids (x ∷ without_taken number xs))) (sym rest) known_rest);
    }

removed-step : (number : ℕ) (t x : TakenChain) (xs : List TakenChain) (c : NumberedChain) (cs : List NumberedChain) (records : List ChainRecord)
    → AreTaken (x ∷ xs) (c ∷ cs) → Known records (c ∷ cs) (taken_ids (x ∷ xs)) → taken_of number (x ∷ xs) ≡ Some t
    → (taken_of number xs ≡ Some t → Removed number t xs cs records) → Removed number t (x ∷ xs) (c ∷ cs) records
removed-step number t x xs c cs records h known e rest = elim (either (x.number == number)) [
  | inl hit ↦
      (let found : Some x ≡ Some t = rw hit at e in
      let same : x ≡ t = cc found in
      removed-here number t x xs c cs records h known hit same)
  | inr miss ↦
      (let left : taken_of number xs ≡ Some t = rw miss at e in
      removed-later number t x xs c cs records h known miss (rest left))
]

pub removed : (number : ℕ) (t : TakenChain) (ts : List TakenChain) (cs : List NumberedChain) (records : List ChainRecord)
    → AreTaken ts cs → Known records cs (taken_ids ts) → taken_of number ts ≡ Some t → Removed number t ts cs records
removed number t [] [] records h known e = absurd (cc e)
removed number t [] (c ∷ cs) records h known e = absurd h
removed number t (x ∷ xs) [] records h known e = absurd h
removed number t (x ∷ xs) (c ∷ cs) records h known e = removed-step number t x xs c cs records h known e (removed number t xs cs records h.3 known.2)
