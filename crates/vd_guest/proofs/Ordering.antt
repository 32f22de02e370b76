-- Regions in another order: the region of least start is the same.
use Rattle.std.proofs.Common.{◌≡◌, ◌≢◌, ℕ, ◌<◌, ◌≤◌, inl, inr, refl, ap, subst, sym, ◌∙◌, arith, Bool, true, false, cond, ◌&&◌, ◌||◌, nat_lt, nat_le, if◌then◌else◌, List, [], ◌∷◌, Option, Some, None, filter, true≢false}
use Rattle.std.proofs.lemmas.Bool.{and_from, and_parts}
use Rattle.std.proofs.lemmas.Bool.Decides.{nat_tests, leb_tells}
use Rattle.std.specs.Prelude.{is_some}
use Rattle.std.specs.List.{list_any, list_all}
use Rattle.vd_model.specs.declared.memory.Region.{Region}
use Rattle.vd_model.specs.AreaTurns.{overlaps, lower, lowest, first_region}
use Rattle.vd_regions.specs.Ordered.{with_region}

lower_first : (r s : Region) → nat_le r.start s.start ≡ true → lower r (Some s) ≡ r
lower_first r s e = ap (λ b. if b then r else s) e

lower_second : (r s : Region) → nat_le r.start s.start ≡ false → lower r (Some s) ≡ s
lower_second r s e = ap (λ b. if b then r else s) e

module _ (r s : Region) (ne : r.start ≢ s.start) where
  of_two : lower r (Some s) ≡ lower s (Some r)
  of_two = elim (leb_tells r.start s.start) [
    | inl le ↦ (let at_most = le.1 in let no : nat_le s.start r.start ≡ false = grind (arith, nat_tests) in lower_first r s le.0 ∙ sym (lower_second s r no))
    | inr gt ↦ (let more = gt.1 in let yes : nat_le s.start r.start ≡ true = grind (arith, nat_tests) in lower_second r s gt.0 ∙ sym (lower_first s r yes))
  ]

  of_three : (t : Region) → lower r (Some (lower s (Some t))) ≡ lower s (Some (lower r (Some t)))
  of_three t = elim (leb_tells s.start t.start) [
    | inl a ↦ elim (leb_tells r.start t.start) [
      | inl b ↦ (ap (λ x. lower r (Some x)) (lower_first s t a.0) ∙ of_two ∙ sym (ap (λ x. lower s (Some x)) (lower_first r t b.0)))
      | inr b ↦
          (let low = a.1 in
          let high = b.1 in
          let no : nat_le r.start s.start ≡ false = grind (arith, nat_tests) in
          ap (λ x. lower r (Some x)) (lower_first s t a.0) ∙ lower_second r s no
          ∙ sym (ap (λ x. lower s (Some x)) (lower_second r t b.0) ∙ lower_first s t a.0))
    ]
    | inr a ↦ elim (leb_tells r.start t.start) [
      | inl b ↦
          (let high = a.1 in
          let low = b.1 in
          let no : nat_le s.start r.start ≡ false = grind (arith, nat_tests) in
          ap (λ x. lower r (Some x)) (lower_second s t a.0) ∙ lower_first r t b.0
          ∙ sym (ap (λ x. lower s (Some x)) (lower_first r t b.0) ∙ lower_second s r no))
      | inr b ↦
          (ap (λ x. lower r (Some x)) (lower_second s t a.0) ∙ lower_second r t b.0
          ∙ sym (ap (λ x. lower s (Some x)) (lower_second r t b.0) ∙ lower_second s t a.0))
    ]
  ]

  swapped : (o : Option Region) → lower r (Some (lower s o)) ≡ lower s (Some (lower r o))
  swapped None = of_two
  swapped (Some t) = of_three t

  -- two neighbours change places
  pub neighbours : (p : Region → Bool) (zs : List Region) → lowest (filter p (r ∷ s ∷ zs)) ≡ lowest (filter p (s ∷ r ∷ zs))
  neighbours p zs = by (p r) (p s) where
    by : (a b : Bool) → lowest (cond a (r ∷ cond b (s ∷ filter p zs) (filter p zs)) (cond b (s ∷ filter p zs) (filter p zs)))
        ≡ lowest (cond b (s ∷ cond a (r ∷ filter p zs) (filter p zs)) (cond a (r ∷ filter p zs) (filter p zs)))
    by true true = ap (λ x. Some x) (swapped (lowest (filter p zs)))
    by true false = refl
    by false true = refl
    by false false = refl

-- the same region before lists in which the same is found
pub behind_one : (p : Region → Bool) (x : Region) (ys zs : List Region) → lowest (filter p ys) ≡ lowest (filter p zs)
    → lowest (filter p (x ∷ ys)) ≡ lowest (filter p (x ∷ zs))
behind_one p x ys zs e = by (p x) where
  by : (b : Bool) → lowest (cond b (x ∷ filter p ys) (filter p ys)) ≡ lowest (cond b (x ∷ filter p zs) (filter p zs))
  by true = ap (λ o. Some (lower x o)) e
  by false = e

-- each region has an address
abbrev pub are_long : List Region → Bool
are_long rs = list_all (λ (r : Region). nat_le r.start r.last) rs

none_meets : (a b : Bool) → (a || b) ≡ false → (a ≡ false) × (b ≡ false)
none_meets false false e = (refl, refl)
none_meets false true e = absurd (true≢false e)
none_meets true b e = absurd (true≢false e)

-- regions that don't meet begin at different addresses
differs : (r x : Region) → r.start ≤ r.last → nat_le x.start x.last ≡ true → overlaps r.start r.last x ≡ false → r.start ≢ x.start
differs r x long other none same =
    let meet : overlaps r.start r.last x ≡ true = grind (arith, nat_tests) in
    true≢false (sym meet ∙ none)

-- a region that meets none of the others stands among them as before them
pub inserted : (p : Region → Bool) (r : Region) (rs : List Region) → r.start ≤ r.last → are_long rs ≡ true → list_any (overlaps r.start r.last) rs ≡ false
    → lowest (filter p (with_region r rs)) ≡ lowest (filter p (r ∷ rs))
inserted p r [] long all none = refl
inserted p r (x ∷ xs) long all none =
    by (nat_lt r.start x.start) (inserted p r xs long (and_parts (nat_le x.start x.last) (are_long xs) all).1 (none_meets (overlaps r.start r.last x) (list_any (overlaps r.start r.last) xs) none).1) where
      ne : r.start ≢ x.start
      ne = differs r x long (and_parts (nat_le x.start x.last) (are_long xs) all).0 (none_meets (overlaps r.start r.last x) (list_any (overlaps r.start r.last) xs) none).0

      by : (b : Bool) → lowest (filter p (with_region r xs)) ≡ lowest (filter p (r ∷ xs))
          → lowest (filter p (if b then r ∷ x ∷ xs else x ∷ with_region r xs)) ≡ lowest (filter p (r ∷ x ∷ xs))
      by true later = refl
      by false later = behind_one p x (with_region r xs) (r ∷ xs) later ∙ sym (neighbours r x ne p xs)

-- what holds of each region holds of one more
pub each_with : (q : Region → Bool) (r : Region) (rs : List Region) → q r ≡ true → list_all q rs ≡ true → list_all q (with_region r rs) ≡ true
each_with q r [] one all = and_from (q r) true one refl
each_with q r (x ∷ xs) one all = by (nat_lt r.start x.start) (each_with q r xs one (and_parts (q x) (list_all q xs) all).1) where
  by : (b : Bool) → list_all q (with_region r xs) ≡ true → list_all q (if b then r ∷ x ∷ xs else x ∷ with_region r xs) ≡ true
  by true later = and_from (q r) (list_all q (x ∷ xs)) one all
  by false later = and_from (q x) (list_all q (with_region r xs)) (and_parts (q x) (list_all q xs) all).0 later

-- a region is met exactly where one is found
pub met_is_found : (p : Region → Bool) (rs : List Region) → list_any p rs ≡ is_some (lowest (filter p rs))
met_is_found p [] = refl
met_is_found p (x ∷ xs) = by (p x) (met_is_found p xs) where
  by : (b : Bool) → list_any p xs ≡ is_some (lowest (filter p xs)) → (b || list_any p xs) ≡ is_some (lowest (cond b (x ∷ filter p xs) (filter p xs)))
  by true later = refl
  by false later = later
