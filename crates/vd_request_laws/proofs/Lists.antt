-- Lists into whose middle something is put, or from which it is taken.
use Rattle.std.proofs.Common.{◌≡◌, subst, ℕ, zero, suc, ◌≤◌, Bool, true, false, refl, ap, sym, ◌∙◌, arith, List, [], ◌∷◌, ◌++◌, length, ◌||◌, ◌==◌, not, cond, Some, None, find, filter, inl, inr, true≢false}
use Rattle.std.specs.List.{All, AllPairs, list_any}
use Rattle.std.proofs.lemmas.Bool.Decides.{eqb_tells}
use Rattle.std.proofs.lemmas.List.Elements.{All-head, All-tail, All-cons, All-nil}

pub itself : (n : ℕ) → (n == n) ≡ true
itself n = elim (eqb_tells n n) [ inl h ↦ h.0 | inr h ↦ absurd (h.1 refl) ]

pub equal : (a b : ℕ) → (a == b) ≡ true → a ≡ b
equal a b e = elim (eqb_tells a b) [ inl h ↦ h.1 | inr h ↦ absurd (true≢false (sym e ∙ h.0)) ]

pub no_some : {X : Type 0} {x : X} → None ≡ Some x → ⊥
no_some e = cc

pub same_some : {X : Type 0} {x y : X} → Some x ≡ Some y → x ≡ y
same_some e = cc

-- a test that can't hold
pub not_so : (t : Bool) → (t ≡ true → ⊥) → t ≡ false
not_so false never = refl
not_so true never = absurd (never refl)

pub or_left : (a b : Bool) → a ≡ true → (a || b) ≡ true
or_left true b e = refl
or_left false b e = absurd (true≢false (sym e))

pub or_right : (a b : Bool) → b ≡ true → (a || b) ≡ true
or_right true b e = refl
or_right false b e = e

-- ---- what all have

module _ {X : Type 0} (P : X → Type 0) where
  pub all_back : (front back : List X) → All P (front ++ back) → All P back
  all_back [] back h = h
  all_back (x ∷ front) back h = all_back front back (All-tail P x (front ++ back) h)

  pub all_front : (front back : List X) → All P (front ++ back) → All P front
  all_front [] back h = All-nil P
  all_front (x ∷ front) back h = All-cons P x front (All-head P x (front ++ back) h) (all_front front back (All-tail P x (front ++ back) h))

  pub all_without : (front some back : List X) → All P (front ++ (some ++ back)) → All P (front ++ back)
  all_without [] some back h = all_back some back h
  all_without (x ∷ front) some back h =
      All-cons P x (front ++ back) (All-head P x (front ++ (some ++ back)) h) (all_without front some back (All-tail P x (front ++ (some ++ back)) h))

  pub all_with : (front : List X) (x : X) (back : List X) → P x → All P (front ++ back) → All P (front ++ x ∷ back)
  all_with [] x back p h = All-cons P x back p h
  all_with (y ∷ front) x back p h =
      All-cons P y (front ++ x ∷ back) (All-head P y (front ++ back) h) (all_with front x back p (All-tail P y (front ++ back) h))

  pub all_at : (front : List X) (x : X) (back : List X) → All P (front ++ x ∷ back) → P x
  all_at [] x back h = All-head P x back h
  all_at (y ∷ front) x back h = all_at front x back (All-tail P y (front ++ x ∷ back) h)

  pub all_find : (p : X → Bool) (xs : List X) (x : X) → find p xs ≡ Some x → All P xs → P x
  all_find p [] x e h = absurd (no_some e)
  all_find p (y ∷ ys) x e h = by (p y) e (λ f. all_find p ys x f (All-tail P y ys h)) where
    by : (t : Bool) → cond t (Some y) (find p ys) ≡ Some x → (find p ys ≡ Some x → P x) → P x
    by true f rest = subst P (same_some f) (All-head P y ys h)
    by false f rest = rest f

-- ---- what any two have

module _ {X : Type 0} (R : X → X → Type 0) where
  pub pairs_nil : AllPairs R []
  pairs_nil = λ i j d below within. absurd (omega (arith, within))

  pub pairs_tail : (x : X) (xs : List X) → AllPairs R (x ∷ xs) → AllPairs R xs
  pairs_tail x xs h = λ i j d below within. h (suc i) (suc j) d (omega (arith, below)) (omega (arith, within))

  pub pairs_head : (x : X) (xs : List X) → AllPairs R (x ∷ xs) → All (R x) xs
  pairs_head x xs h = λ k d within. h zero (suc k) d (omega arith) (omega (arith, within))

  pub pairs_cons : (x : X) (xs : List X) → All (R x) xs → AllPairs R xs → AllPairs R (x ∷ xs)
  pairs_cons x xs all h zero zero d below within = absurd (omega (arith, below))
  pairs_cons x xs all h zero (suc j) d below within = all j d (omega (arith, within))
  pairs_cons x xs all h (suc i) zero d below within = absurd (omega (arith, below))
  pairs_cons x xs all h (suc i) (suc j) d below within = h i j d (omega (arith, below)) (omega (arith, within))

  pub pairs_back : (some back : List X) → AllPairs R (some ++ back) → AllPairs R back
  pairs_back [] back h = h
  pairs_back (x ∷ some) back h = pairs_back some back (pairs_tail x (some ++ back) h)

  pub pairs_front : (front back : List X) → AllPairs R (front ++ back) → AllPairs R front
  pairs_front [] back h = pairs_nil
  pairs_front (x ∷ front) back h =
      pairs_cons x front (all_front (R x) front back (pairs_head x (front ++ back) h)) (pairs_front front back (pairs_tail x (front ++ back) h))

  pub pairs_without : (front some back : List X) → AllPairs R (front ++ (some ++ back)) → AllPairs R (front ++ back)
  pairs_without [] some back h = pairs_back some back h
  pairs_without (x ∷ front) some back h =
      pairs_cons x (front ++ back) (all_without (R x) front some back (pairs_head x (front ++ (some ++ back)) h)) (pairs_without front some back (pairs_tail x (front ++ (some ++ back)) h))

  module _ (turned : (x y : X) → R x y → R y x) where
    -- one that stands to all others as they do to one another
    pub pairs_with : (front : List X) (x : X) (back : List X) → All (R x) (front ++ back) → AllPairs R (front ++ back) → AllPairs R (front ++ x ∷ back)
    pairs_with [] x back all h = pairs_cons x back all h
    pairs_with (y ∷ front) x back all h =
        pairs_cons y (front ++ x ∷ back)
        (all_with (R y) front x back (turned x y (All-head (R x) y (front ++ back) all)) (pairs_head y (front ++ back) h))
        (pairs_with front x back (All-tail (R x) y (front ++ back) all) (pairs_tail y (front ++ back) h))

    pub pairs_at : (front : List X) (x : X) (back : List X) → AllPairs R (front ++ x ∷ back) → All (R x) (front ++ back)
    pairs_at [] x back h = pairs_head x back h
    pairs_at (y ∷ front) x back h =
        All-cons (R x) y (front ++ back) (turned y x (all_at (R y) front x back (pairs_head y (front ++ x ∷ back) h))) (pairs_at front x back (pairs_tail y (front ++ x ∷ back) h))

    -- those in the middle, to those around it
    pub pairs_middle : (front some back : List X) → AllPairs R (front ++ (some ++ back)) → All (λ x. All (R x) (front ++ back)) some
    pairs_middle front [] back h = All-nil (λ x. All (R x) (front ++ back))
    pairs_middle front (x ∷ some) back h =
        All-cons (λ x. All (R x) (front ++ back)) x some
        (all_without (R x) front some back (pairs_at front x (some ++ back) h))
        (pairs_middle front some back (pairs_without front (x ∷ []) (some ++ back) h))

-- ---- what some have

module _ {X : Type 0} (p : X → Bool) where
  pub any_left : (xs ys : List X) → list_any p xs ≡ true → list_any p (xs ++ ys) ≡ true
  any_left [] ys e = absurd (true≢false (sym e))
  any_left (x ∷ xs) ys e = by (p x) e (any_left xs ys) where
    by : (t : Bool) → (t || list_any p xs) ≡ true → (list_any p xs ≡ true → list_any p (xs ++ ys) ≡ true) → (t || list_any p (xs ++ ys)) ≡ true
    by true f rest = refl
    by false f rest = rest f

  pub any_right : (xs ys : List X) → list_any p ys ≡ true → list_any p (xs ++ ys) ≡ true
  any_right [] ys e = e
  any_right (x ∷ xs) ys e = or_right (p x) (list_any p (xs ++ ys)) (any_right xs ys e)

  -- what passes is kept
  pub any_kept : (keep : X → Bool) (xs : List X) → All (λ x. p x ≡ true → keep x ≡ true) xs → list_any p xs ≡ true → list_any p (filter keep xs) ≡ true
  any_kept keep [] all e = e
  any_kept keep (x ∷ xs) all e =
      by (p x) (keep x) refl refl e (All-head (λ x. p x ≡ true → keep x ≡ true) x xs all) (any_kept keep xs (All-tail (λ x. p x ≡ true → keep x ≡ true) x xs all)) where
        by : (t k : Bool) → p x ≡ t → keep x ≡ k → (t || list_any p xs) ≡ true → (t ≡ true → k ≡ true) → (list_any p xs ≡ true → list_any p (filter keep xs) ≡ true)
            → list_any p (cond k (x ∷ filter keep xs) (filter keep xs)) ≡ true
        by true true is kept f here rest = or_left (p x) (list_any p (filter keep xs)) is
        by true false is kept f here rest = absurd (true≢false (sym (here refl)))
        by false true is kept f here rest = or_right (p x) (list_any p (filter keep xs)) (rest f)
        by false false is kept f here rest = rest f

  -- where none passes, each fails
  pub none_passes : (xs : List X) → list_any p xs ≡ false → All (λ x. p x ≡ false) xs
  none_passes [] e = All-nil (λ x. p x ≡ false)
  none_passes (x ∷ xs) e = by (p x) refl e (none_passes xs) where
    by : (t : Bool) → p x ≡ t → (t || list_any p xs) ≡ false → (list_any p xs ≡ false → All (λ x. p x ≡ false) xs) → All (λ x. p x ≡ false) (x ∷ xs)
    by true is f rest = absurd (true≢false f)
    by false is f rest = All-cons (λ x. p x ≡ false) x xs is (rest f)

  pub found_passes : (xs : List X) (x : X) → find p xs ≡ Some x → p x ≡ true
  found_passes [] x e = absurd (no_some e)
  found_passes (y ∷ ys) x e = by (p y) refl e (found_passes ys x) where
    by : (t : Bool) → p y ≡ t → cond t (Some y) (find p ys) ≡ Some x → (find p ys ≡ Some x → p x ≡ true) → p x ≡ true
    by true is f rest = ap p (sym (same_some f)) ∙ is
    by false is f rest = rest f

  pub found_any : (xs : List X) (x : X) → find p xs ≡ Some x → list_any p xs ≡ true
  found_any [] x e = absurd (no_some e)
  found_any (y ∷ ys) x e = by (p y) e (found_any ys x) where
    by : (t : Bool) → cond t (Some y) (find p ys) ≡ Some x → (find p ys ≡ Some x → list_any p ys ≡ true) → (t || list_any p ys) ≡ true
    by true f rest = refl
    by false f rest = rest f

  -- where no more than none passes, all the others stay
  pub all_stay : (xs : List X) → length (filter p xs) ≤ 0 → filter (λ x. not (p x)) xs ≡ xs
  all_stay [] few = refl
  all_stay (x ∷ xs) few = by (p x) few (all_stay xs) where
    by : (t : Bool) → length (cond t (x ∷ filter p xs) (filter p xs)) ≤ 0 → (length (filter p xs) ≤ 0 → filter (λ x. not (p x)) xs ≡ xs)
        → cond (not t) (x ∷ filter (λ x. not (p x)) xs) (filter (λ x. not (p x)) xs) ≡ x ∷ xs
    by true less rest = absurd (omega (arith, less))
    by false less rest = ap (λ l. x ∷ l) (rest less)

-- one of a list, and what is before and behind it
pub record Split {X : Type 0} (p : X → Bool) (xs : List X) (x : X) : Type 0 where
  pub before : List X
  pub behind : List X
  pub whole : xs ≡ before ++ x ∷ behind
  pub others : filter (λ y. not (p y)) xs ≡ before ++ behind

-- the only one that passes
pub lone_split : {X : Type 0} (p : X → Bool) (xs : List X) (x : X) → find p xs ≡ Some x → length (filter p xs) ≤ 1 → Split p xs x
lone_split p [] x e few = absurd (no_some e)
lone_split {X} p (y ∷ ys) x e few = by (p y) refl e few (lone_split p ys x) where
  kept : {t : Bool} → p y ≡ t → filter (λ y. not (p y)) (y ∷ ys) ≡ cond (not t) (y ∷ filter (λ y. not (p y)) ys) (filter (λ y. not (p y)) ys)
  kept is = ap (λ t. cond (not t) (y ∷ filter (λ y. not (p y)) ys) (filter (λ y. not (p y)) ys)) is

  by : (t : Bool) → p y ≡ t → cond t (Some y) (find p ys) ≡ Some x → length (cond t (y ∷ filter p ys) (filter p ys)) ≤ 1
      → (find p ys ≡ Some x → length (filter p ys) ≤ 1 → Split p ys x) → Split p (y ∷ ys) x
  by true is f less rest = record {
    before = [];
    behind = ys;
    whole = ap (λ z. z ∷ ys) (same_some f);
    others = kept is ∙ all_stay p ys (omega (arith, less));
  }
  by false is f less rest = let s = rest f less in record {
    before = y ∷ s.before;
    behind = s.behind;
    whole = ap (λ l. y ∷ l) s.whole;
    others = kept is ∙ ap (λ l. y ∷ l) s.others;
  }
