-- Where the chain of a number is among those that are taken.
use Rattle.std.proofs.Common.{◌≡◌, ℕ, suc, ◌+◌, ◌<◌, ◌≤◌, ◌==◌, nat_lt, Bool, true, false, cond, List, [], ◌∷◌, ◌++◌, length, take, drop, get_or, Option, Some, None, refl, sym, ap, subst, ◌∙◌, inl, inr, arith}
use Rattle.std.specs.List.{position, position_or_len}
use Rattle.std.specs.Prelude.{is_some, IfSome, OnSome}
use Rattle.std.proofs.lemmas.Bool.{cases_lt}
use Rattle.std.proofs.lemmas.Bool.Decides.{nat_tests}
use Rattle.vr_split_pair.specs.declared.chain.TakenChain.{TakenChain}
use Rattle.vr_split_pair.specs.Lies.{taken_of, without_taken}
use Rattle.vr_split_pair.proofs.Owners.{either}

abbrev no_taken : TakenChain
no_taken = record { number = 0; head = 0 }

abbrev is_of : ℕ → TakenChain → Bool
is_of number t = t.number == number

pub record Located (number : ℕ) (ts : List TakenChain) (i : ℕ) : Type 0 where
  pub within : i < length ts
  pub found : (d : TakenChain) → taken_of number ts ≡ Some (get_or ts i d)
  pub rest : without_taken number ts ≡ take i ts ++ drop (suc i) ts

located-here : (number : ℕ) (t : TakenChain) (ts : List TakenChain) → (t.number == number) ≡ true → Located number (t ∷ ts) 0
located-here number t ts hit = record { within = omega arith; found = λ d. rw hit refl; rest = rw hit refl }

located-later : (number : ℕ) (t : TakenChain) (ts : List TakenChain) (i : ℕ) → (t.number == number) ≡ false → Located number ts i → Located number (t ∷ ts) (suc i)
located-later number t ts i miss l =
    let within : i < length ts = l.within in
    record {
      within = omega (arith, within);
      found = λ d. rw miss (l.found d);
      rest = rw miss (ap (λ (xs : List TakenChain). t ∷ xs) l.rest);
    }

located-step : (number : ℕ) (t : TakenChain) (ts : List TakenChain) → (position_or_len (is_of number) ts < length ts → Located number ts (position_or_len (is_of number) ts))
    → position_or_len (is_of number) (t ∷ ts) < length (t ∷ ts) → Located number (t ∷ ts) (position_or_len (is_of number) (t ∷ ts))
located-step number t ts later h = elim (either (t.number == number)) [
  | inl hit ↦
      (let at : position_or_len (is_of number) (t ∷ ts) ≡ 0 = rw hit refl in
      subst (Located number (t ∷ ts)) (sym at) (located-here number t ts hit))
  | inr miss ↦
      (let at : position_or_len (is_of number) (t ∷ ts) ≡ 1 + position_or_len (is_of number) ts = rw miss refl in
      let on : 1 + position_or_len (is_of number) ts ≡ suc (position_or_len (is_of number) ts) = omega arith in
      let less : position_or_len (is_of number) ts < length ts = omega (arith, at, h) in
      subst (Located number (t ∷ ts)) (sym (at ∙ on)) (located-later number t ts (position_or_len (is_of number) ts) miss (later less)))
]

located_within : (number : ℕ) (ts : List TakenChain) → position_or_len (is_of number) ts < length ts → Located number ts (position_or_len (is_of number) ts)
located_within number [] h = absurd (omega arith)
located_within number (t ∷ ts) h = located-step number t ts (located_within number ts) h

absent-step : (number : ℕ) (t : TakenChain) (ts : List TakenChain) → (length ts ≤ position_or_len (is_of number) ts → (taken_of number ts ≡ None) × (without_taken number ts ≡ ts))
    → length (t ∷ ts) ≤ position_or_len (is_of number) (t ∷ ts) → (taken_of number (t ∷ ts) ≡ None) × (without_taken number (t ∷ ts) ≡ t ∷ ts)
absent-step number t ts later h = elim (either (t.number == number)) [
  | inl hit ↦
      (let at : position_or_len (is_of number) (t ∷ ts) ≡ 0 = rw hit refl in
      absurd (omega (arith, at, h)))
  | inr miss ↦
      (let at : position_or_len (is_of number) (t ∷ ts) ≡ 1 + position_or_len (is_of number) ts = rw miss refl in
      let more : length ts ≤ position_or_len (is_of number) ts = omega (arith, at, h) in
      let rest = later more in
      (rw miss rest.0, rw miss (ap (λ (xs : List TakenChain). t ∷ xs) rest.1)))
]

absent_past : (number : ℕ) (ts : List TakenChain) → length ts ≤ position_or_len (is_of number) ts → (taken_of number ts ≡ None) × (without_taken number ts ≡ ts)
absent_past number [] h = (refl, refl)
absent_past number (t ∷ ts) h = absent-step number t ts (absent_past number ts) h

-- by what a search for the number gives
pub located : (number : ℕ) (ts : List TakenChain) (i : ℕ) → Some i ≡ position (is_of number) ts → Located number ts i
located number ts i e = elim (cases_lt (position_or_len (is_of number) ts) (length ts)) [
  | inl within ↦
      (let test : nat_lt (position_or_len (is_of number) ts) (length ts) ≡ true = grind (arith, nat_tests) in
      let is : position (is_of number) ts ≡ Some (position_or_len (is_of number) ts) = ap (λ (b : Bool). cond b (Some (position_or_len (is_of number) ts)) None) test in
      let both : Some i ≡ Some (position_or_len (is_of number) ts) = e ∙ is in
      let same : i ≡ position_or_len (is_of number) ts = cc both in
      subst (Located number ts) (sym same) (located_within number ts within))
  | inr past ↦
      (let test : nat_lt (position_or_len (is_of number) ts) (length ts) ≡ false = grind (arith, nat_tests) in
      let is : position (is_of number) ts ≡ None = ap (λ (b : Bool). cond b (Some (position_or_len (is_of number) ts)) None) test in
      let both : Some i ≡ None = e ∙ is in
      absurd (cc both))
]

pub absent : (number : ℕ) (ts : List TakenChain) → None ≡ position (is_of number) ts → (taken_of number ts ≡ None) × (without_taken number ts ≡ ts)
absent number ts e = elim (cases_lt (position_or_len (is_of number) ts) (length ts)) [
  | inl within ↦
      (let test : nat_lt (position_or_len (is_of number) ts) (length ts) ≡ true = grind (arith, nat_tests) in
      let is : position (is_of number) ts ≡ Some (position_or_len (is_of number) ts) = ap (λ (b : Bool). cond b (Some (position_or_len (is_of number) ts)) None) test in
      let both : None ≡ Some (position_or_len (is_of number) ts) = e ∙ is in
      absurd (cc both))
  | inr past ↦ absent_past number ts past
]

-- by what taking out an entry gives
pub removed_is : (o x : Option TakenChain) (ts : List TakenChain) (i : ℕ) → is_some o ≡ true → IfSome o (λ y. y ≡ get_or ts i y) → ((d : TakenChain) → x ≡ Some (get_or ts i d)) → o ≡ x
removed_is None x ts i some value found = absurd (cc some)
removed_is (Some y) x ts i some value found = ap Some value ∙ sym (found y)

pub removed_rest : (o : Option TakenChain) (xs ys : List TakenChain) → is_some o ≡ true → OnSome o (xs ≡ ys) → xs ≡ ys
removed_rest None xs ys some h = absurd (cc some)
removed_rest (Some y) xs ys some h = h
