-- Stamps and quotas stay divided among the views, and a view with the whole quota knows all that any view does.
use Rattle.std.proofs.Common.{◌≡◌, ◌≢◌, ℕ, ◌+◌, ◌^◌, ◌≤◌, List, [], ◌∷◌, ◌++◌, set, sym, ap, ◌∙◌, subst, ⊎_elim, arith}
use Rattle.std.specs.Prelude.{sum_by, Contains, slice_index}
use Rattle.std.proofs.lemmas.List.Sums.{sum_by-set, sum_by-append, get_or-le-sum_by}
use mathlib.Core.Option.{some, some-injective}
use native.Mathlib.Decide.{ℕ_discrete}
use lib.ListN.{get_elem?}
use Rattle.atomic_table.proofs.Lists.{at_set, at_snoc, set_else}
use Rattle.sh_cells.specs.declared.view.View.{View}
use Rattle.sh_cells.specs.Views.{nothing, both_of}
use Rattle.sh_cells.specs.Rule.{Told, IsDivided, left_of, quota_of}
use Rattle.sh_cells.proofs.Told.{at_inside, at_or, not_in_nil}

-- the sum over the views, where one of them changes
sums : (f : View → ℕ) (views : List View) (by : ℕ) (v w : View) → get_elem? views by ≡ some v → sum_by f (set views by w) + f v ≡ sum_by f views + f w
sums f views by v w here = ap (λ (y : View). sum_by f (set views by w) + f y) (sym (at_or views by v v here)) ∙ sum_by-set f views by w v (at_inside views by v here)

-- a view takes no more stamps than the counter leaves, and keeps its quota
pub divided_step : (words words' : List ℕ) (views : List View) (by : ℕ) (v w : View) → get_elem? views by ≡ some v
    → slice_index words' 0 + w.left ≤ slice_index words 0 + v.left → w.quota ≡ v.quota → 1 ≤ v.quota
    → IsDivided words views → IsDivided words' (set views by w)
divided_step words words' views by v w here less same some' h = record {
  stamps = omega (arith, sums left_of views by v w here, h.stamps, less);
  quotas = omega (arith, sums quota_of views by v w here, h.quotas, same);
  spent = λ j u at zero. ⊎_elim
      (λ (t : (j ≡ by) × (w ≡ u)). absurd (omega (arith, ap quota_of t.1, zero, same, some')))
      (λ (t : (j ≢ by) × (get_elem? views j ≡ some u)). h.spent j u t.1 zero)
      (at_set views by j w u at);
}

pub left_within : (views : List View) (by : ℕ) (v : View) → get_elem? views by ≡ some v → v.left ≤ sum_by left_of views
left_within views by v here = subst (λ (y : View). y.left ≤ sum_by left_of views) (at_or views by v v here) (get_or-le-sum_by left_of views by v (at_inside views by v here))

pub quota_within : (views : List View) (by : ℕ) (v : View) → get_elem? views by ≡ some v → v.quota ≤ sum_by quota_of views
quota_within views by v here = subst (λ (y : View). y.quota ≤ sum_by quota_of views) (at_or views by v v here) (get_or-le-sum_by quota_of views by v (at_inside views by v here))

-- the shares are cut
pub divided_split : (words : List ℕ) (views : List View) (by : ℕ) (v l r : View) → get_elem? views by ≡ some v
    → l.left + r.left ≡ v.left → l.quota + r.quota ≡ v.quota → 1 ≤ l.quota → 1 ≤ r.quota
    → IsDivided words views → IsDivided words (set views by l ++ r ∷ [])
divided_split words views by v l r here left quota some_l some_r h = record {
  stamps = omega (arith, sums left_of views by v l here, sum_by-append left_of (set views by l) (r ∷ []), h.stamps, left);
  quotas = omega (arith, sums quota_of views by v l here, sum_by-append quota_of (set views by l) (r ∷ []), h.quotas, quota);
  spent = λ j u at zero. ⊎_elim
      (λ (old : get_elem? (set views by l) j ≡ some u). ⊎_elim
      (λ (t : (j ≡ by) × (l ≡ u)). absurd (omega (arith, ap quota_of t.1, zero, some_l)))
      (λ (t : (j ≢ by) × (get_elem? views j ≡ some u)). h.spent j u t.1 zero)
      (at_set views by j l u old))
      (λ (new : r ≡ u). absurd (omega (arith, ap quota_of new, zero, some_r)))
      (at_snoc (set views by l) r u j at);
}

-- the shares are put together
pub divided_join : (words : List ℕ) (views : List View) (by other : ℕ) (v w : View) → get_elem? views by ≡ some v → other ≢ by → get_elem? views other ≡ some w
    → 1 ≤ v.quota → IsDivided words views → IsDivided words (set (set views by (both_of v w)) other nothing)
divided_join words views by other v w here apart there some_v h =
    let b : View = both_of v w in
    let there' : get_elem? (set views by b) other ≡ some w = set_else views by other b apart ∙ there in
    record {
      stamps = omega (arith, sums left_of views by v b here, sums left_of (set views by b) other w nothing there', h.stamps);
      quotas = omega (arith, sums quota_of views by v b here, sums quota_of (set views by b) other w nothing there', h.quotas);
      spent = λ j u at zero. ⊎_elim
          (λ (t : (j ≡ other) × (nothing ≡ u)). sym t.1)
          (λ (t : (j ≢ other) × (get_elem? (set views by b) j ≡ some u)). ⊎_elim
          (λ (s : (j ≡ by) × (b ≡ u)). absurd (omega (arith, ap quota_of s.1, zero, some_v)))
          (λ (s : (j ≢ by) × (get_elem? views j ≡ some u)). h.spent j u s.1 zero)
          (at_set views by j b u t.1))
          (at_set (set views by b) other j nothing u at);
    }

-- who has the whole quota is alone: what any view has, this one has
pub told_whole : {A : Type 0} (field : View → List A) (words : List ℕ) (views : List View) (by : ℕ) (v : View) → field nothing ≡ [] → get_elem? views by ≡ some v
    → v.quota ≡ 2 ^ 47 → IsDivided words views → (x : A) → Told field views x → Contains (field v) x
told_whole {A} field words views by v none here whole h x (j, u, at, has) = on (ℕ_discrete j by)
  where
    -- with the view at j taken away, the others' sum is no less than the whole
    zero_quota : j ≢ by → u.quota ≡ 0
    zero_quota ne =
        let s = sums quota_of views j u nothing at in
        let w = quota_within (set views j nothing) by v (set_else views j by nothing (λ e. ne (sym e)) ∙ here) in
        omega (arith, s, w, h.quotas, whole)

    on : Dec (j ≡ by) → Contains (field v) x
    on (yes e) = subst (λ (y : View). Contains (field y) x) (some-injective u v (sym at ∙ ap (get_elem? views) e ∙ here)) has
    on (no ne) = absurd (not_in_nil x (subst (λ (xs : List A). Contains xs x) none (subst (λ (y : View). Contains (field y) x) (h.spent j u at (zero_quota ne)) has)))
