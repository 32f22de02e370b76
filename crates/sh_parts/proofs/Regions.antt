-- The region of least start is the same of two lists with the same regions.
use Rattle.std.proofs.Common.{◌≡◌, ◌≢◌, ℕ, ◌*◌, ◌<◌, ◌≤◌, ◌⊎◌, ⊎_elim, inl, inr, refl, subst, ap, sym, ◌∙◌, arith, Bool, true, false, cond, nat_le, nat_lt, if◌then◌else◌, List, [], ◌∷◌, ◌++◌, Option, Some, None, map, filter, true≢false}
use Rattle.std.proofs.lemmas.Bool.Decides.{nat_tests}
use Rattle.vd_model.specs.declared.memory.Region.{Region}
use Rattle.vd_model.specs.AreaTurns.{overlaps, lower, lowest, first_region}
use Rattle.vd_regions.specs.Ordered.{with_region}
use Rattle.sh_parts.specs.declared.memory.Live.{Live}
use Rattle.sh_parts.specs.Memory.{range_of, IsNew, AreApart, IsIn, HaveSame}

-- ---- membership

pub in_push : (q r : Region) (rs : List Region) → (IsIn q (rs ++ r ∷ []) → (r ≡ q) ⊎ IsIn q rs) × ((r ≡ q) ⊎ IsIn q rs → IsIn q (rs ++ r ∷ []))
in_push q r [] = ((λ i. i), (λ i. i))
in_push q r (s ∷ rs) = (
  (λ i. ⊎_elim (λ (e : s ≡ q). inr (inl e)) (λ (j : IsIn q (rs ++ r ∷ [])). ⊎_elim (λ (e : r ≡ q). inl e) (λ (k : IsIn q rs). inr (inr k)) ((in_push q r rs).0 j)) i),
  (λ i. ⊎_elim (λ (e : r ≡ q). inr ((in_push q r rs).1 (inl e))) (λ (j : IsIn q (s ∷ rs)). ⊎_elim (λ (e : s ≡ q). inl e) (λ (k : IsIn q rs). inr ((in_push q r rs).1 (inr k))) j) i),
)

pub in_placed : (q r : Region) (rs : List Region) → (IsIn q (with_region r rs) → (r ≡ q) ⊎ IsIn q rs) × ((r ≡ q) ⊎ IsIn q rs → IsIn q (with_region r rs))
in_placed q r [] = ((λ i. i), (λ i. i))
in_placed q r (s ∷ rs) = by (nat_lt r.start s.start) refl (in_placed q r rs) where
  by : (b : Bool) → nat_lt r.start s.start ≡ b → (IsIn q (with_region r rs) → (r ≡ q) ⊎ IsIn q rs) × ((r ≡ q) ⊎ IsIn q rs → IsIn q (with_region r rs))
      → (IsIn q (with_region r (s ∷ rs)) → (r ≡ q) ⊎ IsIn q (s ∷ rs)) × ((r ≡ q) ⊎ IsIn q (s ∷ rs) → IsIn q (with_region r (s ∷ rs)))
  by true e rest =
      let is : with_region r (s ∷ rs) ≡ r ∷ s ∷ rs = ap (λ b. if b then r ∷ s ∷ rs else s ∷ with_region r rs) e in
      (subst (IsIn q) is, subst (IsIn q) (sym is))
  by false e rest =
      let is : with_region r (s ∷ rs) ≡ s ∷ with_region r rs = ap (λ b. if b then r ∷ s ∷ rs else s ∷ with_region r rs) e in (
        (λ i. ⊎_elim (λ (x : s ≡ q). inr (inl x)) (λ (j : IsIn q (with_region r rs)). ⊎_elim (λ (x : r ≡ q). inl x) (λ (k : IsIn q rs). inr (inr k)) (rest.0 j)) (subst (IsIn q) is i)),
        (λ i. subst (IsIn q) (sym is) (⊎_elim (λ (x : r ≡ q). inr (rest.1 (inl x))) (λ (j : IsIn q (s ∷ rs)). ⊎_elim (λ (x : s ≡ q). inl x) (λ (k : IsIn q rs). inr (rest.1 (inr k))) j) i)),
      )

pub in_filter : (p : Region → Bool) (q : Region) (rs : List Region) → (IsIn q (filter p rs) → IsIn q rs × (p q ≡ true)) × (IsIn q rs × (p q ≡ true) → IsIn q (filter p rs))
in_filter p q [] = ((λ i. absurd i), (λ i. absurd i.0))
in_filter p q (r ∷ rs) = by (p r) refl (in_filter p q rs) where
  by : (b : Bool) → p r ≡ b → (IsIn q (filter p rs) → IsIn q rs × (p q ≡ true)) × (IsIn q rs × (p q ≡ true) → IsIn q (filter p rs))
      → (IsIn q (filter p (r ∷ rs)) → IsIn q (r ∷ rs) × (p q ≡ true)) × (IsIn q (r ∷ rs) × (p q ≡ true) → IsIn q (filter p (r ∷ rs)))
  by true e rest =
      let is : filter p (r ∷ rs) ≡ r ∷ filter p rs = ap (λ b. cond b (r ∷ filter p rs) (filter p rs)) e in (
        (λ i. ⊎_elim (λ (x : r ≡ q). (inl x, subst (λ s. p s ≡ true) x e)) (λ (j : IsIn q (filter p rs)). let k = rest.0 j in (inr k.0, k.1)) (subst (IsIn q) is i)),
        (λ i. subst (IsIn q) (sym is) (⊎_elim (λ (x : r ≡ q). inl x) (λ (j : IsIn q rs). inr (rest.1 (j, i.1))) i.0)),
      )
  by false e rest =
      let is : filter p (r ∷ rs) ≡ filter p rs = ap (λ b. cond b (r ∷ filter p rs) (filter p rs)) e in (
        (λ i. let k = rest.0 (subst (IsIn q) is i) in (inr k.0, k.1)),
        (λ i. subst (IsIn q) (sym is) (⊎_elim (λ (x : r ≡ q). absurd (true≢false (sym i.1 ∙ subst (λ s. p s ≡ false) x e))) (λ (j : IsIn q rs). rest.1 (j, i.1)) i.0)),
      )

-- ---- the lowest

abbrev pub IsLowest : List Region → Option Region → Type 0
IsLowest rs None = (q : Region) → IsIn q rs → ⊥
IsLowest rs (Some r) = IsIn r rs × ((q : Region) → IsIn q rs → r.start ≤ q.start)

lowest_is : (rs : List Region) → IsLowest rs (lowest rs)
lowest_is [] = λ q i. i
lowest_is (r ∷ rs) = step (lowest rs) (lowest_is rs) where
  step : (o : Option Region) → IsLowest rs o → IsLowest (r ∷ rs) (Some (lower r o))
  step None none = (inl refl, λ q i. ⊎_elim (λ (e : r ≡ q). let s = ap (λ (x : Region). x.start) e in omega arith) (λ (j : IsIn q rs). absurd (none q j)) i)
  step (Some s) low = by (nat_le r.start s.start) refl where
    by : (b : Bool) → nat_le r.start s.start ≡ b → IsLowest (r ∷ rs) (Some (lower r (Some s)))
    by true e =
        let le : r.start ≤ s.start = grind (arith, nat_tests) in
        subst (λ x. IsLowest (r ∷ rs) (Some x)) (sym (ap (λ b. if b then r else s) e))
        (inl refl, λ q i. ⊎_elim (λ (x : r ≡ q). let y = ap (λ (x : Region). x.start) x in omega arith) (λ (j : IsIn q rs). let y = low.1 q j in omega arith) i)
    by false e =
        let lt : s.start < r.start = grind (arith, nat_tests) in
        subst (λ x. IsLowest (r ∷ rs) (Some x)) (sym (ap (λ b. if b then r else s) e))
        (inr low.0, λ q i. ⊎_elim (λ (x : r ≡ q). let y = ap (λ (x : Region). x.start) x in omega arith) (λ (j : IsIn q rs). low.1 q j) i)

same_lowest : (qs rs : List Region) → HaveSame qs rs → ((q r : Region) → IsIn q rs → IsIn r rs → q.start ≡ r.start → q ≡ r) → (o p : Option Region) → IsLowest qs o → IsLowest rs p → o ≡ p
same_lowest qs rs same apart None None a b = refl
same_lowest qs rs same apart None (Some r) a b = absurd (a r ((same r).1 b.0))
same_lowest qs rs same apart (Some q) None a b = absurd (b q ((same q).0 a.0))
same_lowest qs rs same apart (Some q) (Some r) a b =
    let x = a.1 r ((same r).1 b.0) in
    let y = b.1 q ((same q).0 a.0) in
    ap (λ z. Some z) (apart q r ((same q).0 a.0) b.0 (omega arith))

pub first_same : (qs rs : List Region) (start last : ℕ) → HaveSame qs rs → ((q r : Region) → IsIn q rs → IsIn r rs → q.start ≡ r.start → q ≡ r) → first_region qs start last ≡ first_region rs start last
first_same qs rs start last same apart =
    let p : Region → Bool = overlaps start last in
    same_lowest (filter p qs) (filter p rs)
    (λ r. ((λ i. let k = (in_filter p r qs).0 i in (in_filter p r rs).1 ((same r).0 k.0, k.1)), (λ i. let k = (in_filter p r rs).0 i in (in_filter p r qs).1 ((same r).1 k.0, k.1))))
    (λ q r i j. apart q r ((in_filter p q rs).0 i).0 ((in_filter p r rs).0 j).0)
    (lowest (filter p qs)) (lowest (filter p rs)) (lowest_is (filter p qs)) (lowest_is (filter p rs))

-- ---- the ranges of what is live

pub start_is : (k : Live) (r : Region) → range_of k ≡ r → r.start ≡ 4096 * k.page
start_is k r e = sym (ap (λ (x : Region). x.start) e)

pub new_range : (k : Live) (ks : List Live) (r : Region) → IsNew k ks → IsIn r (map range_of ks) → r.start ≢ 4096 * k.page
new_range k [] r new i = absurd i
new_range k (j ∷ ks) r new i = ⊎_elim (λ (e : range_of j ≡ r). λ is. new.1 (let s = start_is j r e in omega arith)) (λ (x : IsIn r (map range_of ks)). new_range k ks r new.2 x) i

pub ranges_apart : (n lo hi : ℕ) (ks : List Live) → AreApart n lo hi ks → (q r : Region) → IsIn q (map range_of ks) → IsIn r (map range_of ks) → q.start ≡ r.start → q ≡ r
ranges_apart n lo hi [] a q r i j e = absurd i
ranges_apart n lo hi (k ∷ ks) a q r i j e =
    ⊎_elim
    (λ (x : range_of k ≡ q). ⊎_elim (λ (y : range_of k ≡ r). sym x ∙ y) (λ (y : IsIn r (map range_of ks)). absurd (new_range k ks r a.4 y (sym e ∙ start_is k q x))) j)
    (λ (x : IsIn q (map range_of ks)). ⊎_elim (λ (y : range_of k ≡ r). absurd (new_range k ks q a.4 x (e ∙ start_is k r y))) (λ (y : IsIn r (map range_of ks)). ranges_apart n lo hi ks a.5 q r x y e) j)
    i
