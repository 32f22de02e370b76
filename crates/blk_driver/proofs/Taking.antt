-- The first request that passes a test, the list without it, and the request of least head.
use Rattle.std.proofs.Common.{◌≡◌, ℕ, suc, ◌+◌, ◌<◌, ◌≤◌, Bool, true, false, Some, None, refl, ap, subst, ◌∙◌, sym, arith, cond, not, List, [], ◌∷◌, length, nat_lt, find, get_or}
use Rattle.std.specs.Prelude.{◌↔◌, nat_le, fold}
use Rattle.std.specs.List.{position, position_or_len, remove, slice_get}
use Rattle.std.proofs.lemmas.Bool.Decides.{nat_tests}
use Rattle.std.proofs.lemmas.List.Folds.{find_at}
use Rattle.std.proofs.lemmas.Option.{slice_get_read, slice_get_past}
use Rattle.blk_driver.specs.declared.pending.Pending.{Pending}
use Rattle.blk_driver.specs.Driver.{without_first, lesser, least_of}

without_first_at : (test : Pending → Bool) (xs : List Pending) → position_or_len test xs < length xs → remove xs (position_or_len test xs) ≡ without_first test xs
without_first_at test [] h = absurd (omega arith)
without_first_at test (x ∷ xs) h = by (test x) (without_first_at test xs) h where
  by : (b : Bool) → (position_or_len test xs < length xs → remove xs (position_or_len test xs) ≡ without_first test xs)
      → cond (not b) (1 + position_or_len test xs) 0 < suc (length xs) → remove (x ∷ xs) (cond (not b) (1 + position_or_len test xs) 0) ≡ cond b xs (x ∷ without_first test xs)
  by true rest k = refl
  by false rest k = let less : position_or_len test xs < length xs = omega arith in
      let e : 1 + position_or_len test xs ≡ suc (position_or_len test xs) = omega arith in
      rw e (ap (λ ys. x ∷ ys) (rest less))

without_first_none : (test : Pending → Bool) (xs : List Pending) → find test xs ≡ None → without_first test xs ≡ xs
without_first_none test [] e = refl
without_first_none test (x ∷ xs) e = by (test x) (without_first_none test xs) e where
  by : (b : Bool) → (find test xs ≡ None → without_first test xs ≡ xs) → cond b (Some x) (find test xs) ≡ None → cond b xs (x ∷ without_first test xs) ≡ x ∷ xs
  by true rest f = cc
  by false rest f = ap (λ ys. x ∷ ys) (rest f)

place_is : (test : Pending → Bool) (xs : List Pending) (k : ℕ) → position test xs ≡ Some k → (position_or_len test xs ≡ k) × (k < length xs)
place_is test xs k e = by (nat_lt (position_or_len test xs) (length xs)) refl e where
  by : (b : Bool) → nat_lt (position_or_len test xs) (length xs) ≡ b → cond b (Some (position_or_len test xs)) None ≡ Some k → (position_or_len test xs ≡ k) × (k < length xs)
  by true e f = let is : position_or_len test xs ≡ k = cc in (is, grind (arith, nat_tests))
  by false e f = cc

-- none passes where none is found
pub nowhere : (test : Pending → Bool) (xs : List Pending) → position test xs ≡ None → find test xs ≡ None
nowhere test xs e = find_at test xs ∙ slice_get_past xs (position_or_len test xs) (by (nat_lt (position_or_len test xs) (length xs)) refl e) where
  by : (b : Bool) → nat_lt (position_or_len test xs) (length xs) ≡ b → cond b (Some (position_or_len test xs)) None ≡ None → length xs ≤ position_or_len test xs
  by true e f = cc
  by false e f = grind (arith, nat_tests)

pub nothing_taken : (test : Pending → Bool) (xs : List Pending) → position test xs ≡ None → xs ≡ without_first test xs
nothing_taken test xs e = sym (without_first_none test xs (nowhere test xs e))

-- a place that was found is one of the list's
pub within : (test : Pending → Bool) (xs : List Pending) (k : ℕ) → position test xs ≡ Some k → k < length xs
within test xs k e = (place_is test xs k e).1

-- what a removal at the first place gives and leaves
pub taken_is : (test : Pending → Bool) (xs : List Pending) (k : ℕ) (y : Pending) → position test xs ≡ Some k → y ≡ get_or xs k y → Some y ≡ find test xs
taken_is test xs k y e value =
    let p = place_is test xs k e in
    sym (find_at test xs ∙ subst (λ n. slice_get xs n ≡ Some y) (sym p.0) (slice_get_read xs (length xs) k y refl p.1 value))

pub taken_rest : (test : Pending → Bool) (xs ys : List Pending) (k : ℕ) → position test xs ≡ Some k → ys ≡ remove xs k → ys ≡ without_first test xs
taken_rest test xs ys k e items =
    let p = place_is test xs k e in
    items ∙ subst (λ n. remove xs n ≡ without_first test xs) p.0 (without_first_at test xs (subst (λ n. n < length xs) (sym p.0) p.1))

-- some request is the least of some
least_some : (q : Pending) (ps : List Pending) → fold lesser (Some q) ps ≡ None → ⊥
least_some q [] e = cc
least_some q (p ∷ ps) e = by (nat_le q.head p.head) (least_some q ps) (least_some p ps) e where
  by : (b : Bool) → (fold lesser (Some q) ps ≡ None → ⊥) → (fold lesser (Some p) ps ≡ None → ⊥) → fold lesser (cond b (Some q) (Some p)) ps ≡ None → ⊥
  by true first later f = first f
  by false first later f = later f

pub least_none : (ps : List Pending) → (least_of ps ≡ None) ↔ (ps ≡ [])
least_none [] = (λ e. refl, λ e. refl)
least_none (p ∷ ps) = (λ e. absurd (least_some p ps e), λ e. absurd (cc))
