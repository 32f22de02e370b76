-- What the views tell, all together, when one of them changes, is cut in two, or takes in another.
use Rattle.std.proofs.Common.{◌≡◌, ◌≢◌, ◌⊎◌, ℕ, zero, suc, ◌<◌, List, [], ◌∷◌, ◌++◌, length, set, get_or, refl, sym, ap, ◌∙◌, subst, ⊎_elim, inl, inr, arith}
use Rattle.std.specs.Prelude.{Contains}
use Rattle.std.proofs.lemmas.List.Elements.{Contains-append_left, Contains-append_right, Contains-append_cases}
use mathlib.Core.Option.{some, some-injective, some-ne-none}
use native.Mathlib.Decide.{ℕ_discrete}
use lib.ListN.{get_elem?}
use Rattle.atomic_table.proofs.Lists.{at_set, at_snoc, at_longer, set_here, set_else}
use Rattle.sh_cells.specs.declared.view.View.{View}
use Rattle.sh_cells.specs.Rule.{Told}

pub at_inside : {A : Type 0} → (l : List A) (i : ℕ) (a : A) → get_elem? l i ≡ some a → i < length l
at_inside [] i a e = absurd (some-ne-none a (sym e))
at_inside (x ∷ xs) zero a e = omega arith
at_inside (x ∷ xs) (suc i) a e = omega (arith, at_inside xs i a e)

pub at_or : {A : Type 0} → (l : List A) (i : ℕ) (a d : A) → get_elem? l i ≡ some a → get_or l i d ≡ a
at_or [] i a d e = absurd (some-ne-none a (sym e))
at_or (x ∷ xs) zero a d e = some-injective x a e
at_or (x ∷ xs) (suc i) a d e = at_or xs i a d e

pub only_one : {A : Type 0} → (a x : A) → Contains (a ∷ []) x → a ≡ x
only_one a x (zero, lt, is) = is
only_one a x (suc k, lt, is) = absurd (omega arith)

pub not_in_nil : {A : Type 0} → (x : A) → Contains [] x → ⊥
not_in_nil x (k, lt, is) = omega arith

pub contains_last : {A : Type 0} → (xs : List A) (a : A) → Contains (xs ++ a ∷ []) a
contains_last xs a = Contains-append_right xs (a ∷ []) a (0, omega arith, refl)

-- Q has what P has, and no more
abbrev pub Same : {A : Type 0} → (A → Type 0) → (A → Type 0) → Type 0
Same {A} P Q = ((x : A) → P x → Q x) × ((x : A) → Q x → P x)

-- Q has what P has and a, and no more
abbrev pub Adds : {A : Type 0} → (A → Type 0) → (A → Type 0) → A → Type 0
Adds {A} P Q a = ((x : A) → P x → Q x) × Q a × ((x : A) → Q x → P x ⊎ (a ≡ x))

module _ {A : Type 0} (field : View → List A) (views : List View) (by : ℕ) (v w : View) (here : get_elem? views by ≡ some v) where
  pub told_own : (x : A) → Contains (field w) x → Told field (set views by w) x
  told_own x has = (by, w, set_here views by w (at_inside views by v here), has)

  pub told_on : ((x : A) → Contains (field v) x → Contains (field w) x) → (x : A) → Told field views x → Told field (set views by w) x
  told_on grows x (j, u, at, has) = on (ℕ_discrete j by)
    where
      on : Dec (j ≡ by) → Told field (set views by w) x
      on (yes e) = told_own x (grows x (subst (λ (y : View). Contains (field y) x) (some-injective u v (sym at ∙ ap (get_elem? views) e ∙ here)) has))
      on (no ne) = (j, u, set_else views by j w ne ∙ at, has)

  pub told_back : (x : A) → Told field (set views by w) x → Told field views x ⊎ Contains (field w) x
  told_back x (j, u, at, has) =
      ⊎_elim
      (λ (t : (j ≡ by) × (w ≡ u)). inr (subst (λ (y : View). Contains (field y) x) (sym t.1) has))
      (λ (t : (j ≢ by) × (get_elem? views j ≡ some u)). inl (j, u, t.1, has))
      (at_set views by j w u at)

  pub told_same : field w ≡ field v → Same (Told field views) (Told field (set views by w))
  told_same same = (
    told_on (λ x has. subst (λ (l : List A). Contains l x) (sym same) has),
    λ x t. ⊎_elim (λ (old : Told field views x). old) (λ (has : Contains (field w) x). (by, v, here, subst (λ (l : List A). Contains l x) same has)) (told_back x t),
  )

  pub told_adds : (a : A) → field w ≡ field v ++ a ∷ [] → Adds (Told field views) (Told field (set views by w)) a
  told_adds a more = (
    told_on (λ x has. subst (λ (l : List A). Contains l x) (sym more) (Contains-append_left (field v) (a ∷ []) x has)),
    told_own a (subst (λ (l : List A). Contains l a) (sym more) (contains_last (field v) a)),
    λ x t. ⊎_elim
        (λ (old : Told field views x). inl old)
        (λ (has : Contains (field w) x). ⊎_elim
        (λ (was : Contains (field v) x). inl (by, v, here, was))
        (λ (new : Contains (a ∷ []) x). inr (only_one a x new))
        (Contains-append_cases (field v) (a ∷ []) x (subst (λ (l : List A). Contains l x) more has)))
        (told_back x t),
  )

module _ {A : Type 0} (field : View → List A) (views : List View) (by : ℕ) (v : View) (here : get_elem? views by ≡ some v) where
  -- one view becomes two, with the same lists
  pub told_split : (l r : View) → field l ≡ field v → field r ≡ field v → Same (Told field views) (Told field (set views by l ++ r ∷ []))
  told_split l r left right =
      let same = told_same field views by v l here left in (
        λ x t. let t' = same.0 x t in (t'.0, t'.1, at_longer (set views by l) (r ∷ []) t'.0 t'.1 t'.2, t'.3),
        λ x t. ⊎_elim
            (λ (old : get_elem? (set views by l) t.0 ≡ some t.1). same.1 x (t.0, t.1, old, t.3))
            (λ (new : r ≡ t.1). (by, v, here, subst (λ (xs : List A). Contains xs x) right (subst (λ (y : View). Contains (field y) x) (sym new) t.3)))
            (at_snoc (set views by l) r t.1 t.0 t.2),
      )

  -- two views become one, and the other is spent
  pub told_join : (other : ℕ) (w b n : View) → other ≢ by → get_elem? views other ≡ some w → field b ≡ field v ++ field w → field n ≡ []
      → Same (Told field views) (Told field (set (set views by b) other n))
  told_join other w b n apart there both none = (forth, back)
    where
      now : List View
      now = set (set views by b) other n

      at_by : get_elem? (set (set views by b) other n) by ≡ some b
      at_by = set_else (set views by b) other by n (λ e. apart (sym e)) ∙ set_here views by b (at_inside views by v here)

      forth : (x : A) → Told field views x → Told field (set (set views by b) other n) x
      forth x (j, u, at, has) = on (ℕ_discrete j by) (ℕ_discrete j other)
        where
          on : Dec (j ≡ by) → Dec (j ≡ other) → Told field (set (set views by b) other n) x
          on (yes e) _ = (by, b, at_by, subst (λ (xs : List A). Contains xs x) (sym both) (Contains-append_left (field v) (field w) x (subst (λ (y : View). Contains (field y) x) (some-injective u v (sym at ∙ ap (get_elem? views) e ∙ here)) has)))
          on (no ne) (yes e) = (by, b, at_by, subst (λ (xs : List A). Contains xs x) (sym both) (Contains-append_right (field v) (field w) x (subst (λ (y : View). Contains (field y) x) (some-injective u w (sym at ∙ ap (get_elem? views) e ∙ there)) has)))
          on (no ne) (no ne') = (j, u, set_else (set views by b) other j n ne' ∙ set_else views by j b ne ∙ at, has)

      back : (x : A) → Told field (set (set views by b) other n) x → Told field views x
      back x t = ⊎_elim
          (λ (old : Told field (set views by b) x). ⊎_elim
          (λ (was : Told field views x). was)
          (λ (has : Contains (field b) x). ⊎_elim
          (λ (l : Contains (field v) x). (by, v, here, l))
          (λ (r : Contains (field w) x). (other, w, there, r))
          (Contains-append_cases (field v) (field w) x (subst (λ (xs : List A). Contains xs x) both has)))
          (told_back field views by v b here x old))
          (λ (has : Contains (field n) x). absurd (not_in_nil x (subst (λ (xs : List A). Contains xs x) none has)))
          (told_back field (set views by b) other w n (set_else views by other b apart ∙ there) x t)
