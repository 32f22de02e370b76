-- The first element that passes a test, and the list without it.
use Rattle.std.proofs.Common.{◌≡◌, ℕ, suc, ◌+◌, ◌<◌, ◌≤◌, Bool, true, false, Option, Some, None, refl, ap, subst, ◌∙◌, sym, arith, cond, not, List, [], ◌∷◌, length, nat_lt, find, get_or}
use Rattle.std.specs.Prelude.{◌↔◌}
use Rattle.std.specs.Option.{IfSome, OnSome, IsSome}
use Rattle.std.specs.List.{position, position_or_len, remove, slice_get}
use Rattle.std.proofs.lemmas.Bool.Decides.{nat_tests}
use Rattle.std.proofs.lemmas.List.Folds.{find_at}
use Rattle.std.proofs.lemmas.Option.{slice_get_read, slice_get_past}
use Rattle.vd_msg.specs.Lists.{without_first}

-- without the element at the first place that passes
without_first_at : {X : Type 0} (test : X → Bool) (xs : List X) → position_or_len test xs < length xs → remove xs (position_or_len test xs) ≡ without_first test xs
without_first_at test [] h = absurd (omega arith)
without_first_at {X} test (x ∷ xs) h = by (test x) (without_first_at test xs) h where
  by : (b : Bool) → (position_or_len test xs < length xs → remove xs (position_or_len test xs) ≡ without_first test xs)
      → cond (not b) (1 + position_or_len test xs) 0 < suc (length xs) → remove (x ∷ xs) (cond (not b) (1 + position_or_len test xs) 0) ≡ cond b xs (x ∷ without_first test xs)
  by true rest k = refl
  by false rest k = let less : position_or_len test xs < length xs = omega arith in
      let e : 1 + position_or_len test xs ≡ suc (position_or_len test xs) = omega arith in
      rw e (ap (λ ys. x ∷ ys) (rest less))

pub without_first_none : {X : Type 0} (test : X → Bool) (xs : List X) → find test xs ≡ None → without_first test xs ≡ xs
without_first_none test [] e = refl
without_first_none {X} test (x ∷ xs) e = by (test x) (without_first_none test xs) e where
  by : (b : Bool) → (find test xs ≡ None → without_first test xs ≡ xs) → cond b (Some x) (find test xs) ≡ None → cond b xs (x ∷ without_first test xs) ≡ x ∷ xs
  by true rest f = cc
  by false rest f = ap (λ ys. x ∷ ys) (rest f)

-- what `position` says of the first place
pub place_is : {X : Type 0} (test : X → Bool) (xs : List X) (k : ℕ) → position test xs ≡ Some k → (position_or_len test xs ≡ k) × (k < length xs)
place_is test xs k e = by (nat_lt (position_or_len test xs) (length xs)) refl e where
  by : (b : Bool) → nat_lt (position_or_len test xs) (length xs) ≡ b → cond b (Some (position_or_len test xs)) None ≡ Some k → (position_or_len test xs ≡ k) × (k < length xs)
  by true e f = let is : position_or_len test xs ≡ k = cc in (is, grind (arith, nat_tests))
  by false e f = cc

pub nowhere : {X : Type 0} (test : X → Bool) (xs : List X) → position test xs ≡ None → find test xs ≡ None
nowhere test xs e = find_at test xs ∙ slice_get_past xs (position_or_len test xs) (by (nat_lt (position_or_len test xs) (length xs)) refl e) where
  by : (b : Bool) → nat_lt (position_or_len test xs) (length xs) ≡ b → cond b (Some (position_or_len test xs)) None ≡ None → length xs ≤ position_or_len test xs
  by true e f = cc
  by false e f = grind (arith, nat_tests)

-- what a removal at the first place gives and leaves
pub removed_is : {X : Type 0} (test : X → Bool) (xs : List X) (n k : ℕ) (r : Option X) → n ≡ length xs → position test xs ≡ Some k → (IsSome r ↔ (k < n)) → IfSome r (λ y. y ≡ get_or xs k y) → r ≡ find test xs
removed_is test xs n k None len e variant value = let found : false ≡ true = variant.1 (subst (λ j. k < j) (sym len) (place_is test xs k e).1) in cc
removed_is test xs n k (Some y) len e variant value =
    let p = place_is test xs k e in
    sym (find_at test xs ∙ subst (λ n. slice_get xs n ≡ Some y) (sym p.0) (slice_get_read xs (length xs) k y refl p.1 value))

pub removed_rest : {X : Type 0} (test : X → Bool) (xs ys : List X) (n k : ℕ) (r : Option X) → n ≡ length xs → position test xs ≡ Some k → (IsSome r ↔ (k < n)) → OnSome r (ys ≡ remove xs k) → ys ≡ without_first test xs
removed_rest test xs ys n k None len e variant items = let found : false ≡ true = variant.1 (subst (λ j. k < j) (sym len) (place_is test xs k e).1) in cc
removed_rest test xs ys n k (Some y) len e variant items =
    let p = place_is test xs k e in
    items ∙ subst (λ n. remove xs n ≡ without_first test xs) p.0 (without_first_at test xs (subst (λ n. n < length xs) (sym p.0) p.1))
