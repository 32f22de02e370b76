-- Lists of regions in order: the first that passes, one more, one fewer.
use Rattle.std.proofs.Common.{◌≡◌, ℕ, ◌+◌, ◌<◌, ◌≤◌, ◌⊎◌, inl, inr, refl, subst, ap, sym, ◌∙◌, arith, Bool, true, false, cond, ◌==◌, ◌||◌, not, nat_lt, nat_le, if◌then◌else◌, List, [], ◌∷◌, Option, Some, None, filter, find, true≢false}
use Rattle.std.proofs.lemmas.Bool.Decides.{nat_tests, leb_tells}
use Rattle.std.specs.Prelude.{is_some}
use Rattle.std.specs.List.{list_any}
use Rattle.std.specs.Map.{values_of, lookup, remove_entry}
use Rattle.std.specs.Cmp.{nat_cmp_is}
use Rattle.std.specs.Ordering.{nat_cmp, match_ordering, is_eq}
use Rattle.std.specs.declared.cmp.Ordering.TheVariants.{Less, Greater}
use Rattle.std.specs.BTreeMap.{insert_entry, is_at}
use Rattle.vd_model.specs.declared.memory.Region.{Region}
use Rattle.vd_model.specs.AreaTurns.{overlaps, lower, lowest}
use Rattle.vd_regions.specs.Ordered.{with_region, IsFrom}

pub from_less : (low high : ℕ) (es : List (ℕ × Region)) → low ≤ high → IsFrom high es → IsFrom low es
from_less low high [] h f = tt
from_less low high (e ∷ es) h f = (let at = f.0 in omega arith, f.1, f.2, f.3)

-- ---- the lowest that passes is the first that passes

found_from : (low : ℕ) (test : Region → Bool) (es : List (ℕ × Region)) (s : Region) → IsFrom low es → find test (values_of es) ≡ Some s → low ≤ s.start
found_from low test [] s f e = cc
found_from low test (e ∷ es) s f found = by (test e.1) refl (λ rest. found_from (e.1.last + 1) test es s f.3 rest) where
  by : (b : Bool) → test e.1 ≡ b → (find test (values_of es) ≡ Some s → e.1.last + 1 ≤ s.start) → low ≤ s.start
  by true h rest =
      let same : Some e.1 ≡ Some s = sym (ap (λ b. cond b (Some e.1) (find test (values_of es))) h) ∙ found in
      let is : e.1 ≡ s = cc in
      let start : e.1.start ≡ s.start = ap (λ r. r.start) is in
      let low_is = f.0 in
      let key = f.1 in
      omega arith
  by false h rest =
      let later = rest (sym (ap (λ b. cond b (Some e.1) (find test (values_of es))) h) ∙ found) in
      let low_is = f.0 in
      let key = f.1 in
      let long = f.2 in
      omega arith

pub lowest_first : (low : ℕ) (test : Region → Bool) (es : List (ℕ × Region)) → IsFrom low es → find test (values_of es) ≡ lowest (filter test (values_of es))
lowest_first low test [] f = refl
lowest_first low test (e ∷ es) f = by (test e.1) refl (lowest_first (e.1.last + 1) test es f.3) where
  lower_is : (o : Option Region) → find test (values_of es) ≡ o → lower e.1 o ≡ e.1
  lower_is None h = refl
  lower_is (Some s) h =
      let past = found_from (e.1.last + 1) test es s f.3 h in
      let long = f.2 in
      let least : nat_le e.1.start s.start ≡ true = grind (arith, nat_tests) in
      ap (λ b. if b then e.1 else s) least

  by : (b : Bool) → test e.1 ≡ b → find test (values_of es) ≡ lowest (filter test (values_of es)) → cond (test e.1) (Some e.1) (find test (values_of es)) ≡ lowest (cond (test e.1) (e.1 ∷ filter test (values_of es)) (filter test (values_of es)))
  by true h later =
      ap (λ b. cond b (Some e.1) (find test (values_of es))) h
      ∙ ap (λ r. Some r) (sym (lower_is (find test (values_of es)) refl))
      ∙ ap (λ o. Some (lower e.1 o)) later
      ∙ sym (ap (λ b. lowest (cond b (e.1 ∷ filter test (values_of es)) (filter test (values_of es)))) h)
  by false h later =
      ap (λ b. cond b (Some e.1) (find test (values_of es))) h ∙ later
      ∙ sym (ap (λ b. lowest (cond b (e.1 ∷ filter test (values_of es)) (filter test (values_of es)))) h)

-- ---- one region more

or_none : (a b : Bool) → (a || b) ≡ false → (a ≡ false) × (b ≡ false)
or_none false false e = (refl, refl)
or_none false true e = absurd (true≢false e)
or_none true b e = absurd (true≢false e)

-- a region that ends before another one starts, or starts past its end
apart : (r s : Region) → overlaps r.start r.last s ≡ false → (r.last < s.start) ⊎ (s.last < r.start)
apart r s h = elim (leb_tells s.start r.last) [
  | inr before ↦ inl before.1
  | inl meets ↦ elim (leb_tells r.start s.last) [
    | inr past ↦ inr past.1
    | inl both ↦
        (let m = meets.1 in
        let b = both.1 in
        let yes : overlaps r.start r.last s ≡ true = grind (arith, nat_tests) in
        absurd (true≢false (sym yes ∙ h)))
  ]
]

inserted : (region : Region) (e : ℕ × Region) (es : List (ℕ × Region)) → (region.start < e.0) ⊎ (e.0 < region.start)
    → insert_entry nat_cmp (e ∷ es) region.start region ≡ (if nat_lt region.start e.0 then (region.start, region) ∷ e ∷ es else e ∷ insert_entry nat_cmp es region.start region)
inserted region e es (inl less) =
    let yes : nat_lt region.start e.0 ≡ true = grind (arith, nat_tests) in
    ap (λ o. match_ordering o ((region.start, region) ∷ e ∷ es) ((e.0, region) ∷ es) (e ∷ insert_entry nat_cmp es region.start region)) (sym (nat_cmp_is region.start e.0 Less less))
    ∙ sym (ap (λ b. if b then (region.start, region) ∷ e ∷ es else e ∷ insert_entry nat_cmp es region.start region) yes)
inserted region e es (inr more) =
    let no : nat_lt region.start e.0 ≡ false = grind (arith, nat_tests) in
    ap (λ o. match_ordering o ((region.start, region) ∷ e ∷ es) ((e.0, region) ∷ es) (e ∷ insert_entry nat_cmp es region.start region)) (sym (nat_cmp_is region.start e.0 Greater more))
    ∙ sym (ap (λ b. if b then (region.start, region) ∷ e ∷ es else e ∷ insert_entry nat_cmp es region.start region) no)

pub record Places (low : ℕ) (region : Region) (es : List (ℕ × Region)) : Type 0 where
  pub from : IsFrom low (insert_entry nat_cmp es region.start region)
  pub list : values_of (insert_entry nat_cmp es region.start region) ≡ with_region region (values_of es)

pub places : (low : ℕ) (region : Region) (es : List (ℕ × Region)) → region.start ≤ region.last → low ≤ region.start → IsFrom low es → list_any (overlaps region.start region.last) (values_of es) ≡ false
    → Places low region es
places low region [] long above f none = record { from = (above, refl, long, tt); list = refl }
places low region (e ∷ es) long above f none = by (apart region e.1 (or_none (overlaps region.start region.last e.1) (list_any (overlaps region.start region.last) (values_of es)) none).0)
    (λ past. places (e.1.last + 1) region es long past f.3 (or_none (overlaps region.start region.last e.1) (list_any (overlaps region.start region.last) (values_of es)) none).1) where
      key : e.0 ≡ e.1.start
      key = f.1

      at : e.1.start ≤ e.1.last
      at = f.2

      by : (region.last < e.1.start) ⊎ (e.1.last < region.start) → (e.1.last + 1 ≤ region.start → Places (e.1.last + 1) region es) → Places low region (e ∷ es)
      by (inl before) later =
          let k = key in
          let less : region.start < e.0 = omega arith in
          let yes : nat_lt region.start e.0 ≡ true = grind (arith, nat_tests) in
          let test : nat_lt region.start e.1.start ≡ true = grind (arith, nat_tests) in
          let is : insert_entry nat_cmp (e ∷ es) region.start region ≡ (region.start, region) ∷ e ∷ es =
          inserted region e es (inl less) ∙ ap (λ b. if b then (region.start, region) ∷ e ∷ es else e ∷ insert_entry nat_cmp es region.start region) yes in
          let past : region.last + 1 ≤ e.0 = omega arith in
          record {
            from = subst (λ xs. IsFrom low xs) (sym is) (above, refl, long, (past, f.1, f.2, f.3));
            list = ap (λ xs. values_of xs) is ∙ sym (ap (λ b. if b then region ∷ e.1 ∷ values_of es else e.1 ∷ with_region region (values_of es)) test);
          }
      by (inr after) later =
          let k = key in
          let a = at in
          let more : e.0 < region.start = omega arith in
          let no : nat_lt region.start e.0 ≡ false = grind (arith, nat_tests) in
          let test : nat_lt region.start e.1.start ≡ false = grind (arith, nat_tests) in
          let is : insert_entry nat_cmp (e ∷ es) region.start region ≡ e ∷ insert_entry nat_cmp es region.start region =
          inserted region e es (inr more) ∙ ap (λ b. if b then (region.start, region) ∷ e ∷ es else e ∷ insert_entry nat_cmp es region.start region) no in
          let rest = later (omega arith) in
          record {
            from = subst (λ xs. IsFrom low xs) (sym is) (f.0, f.1, f.2, rest.from);
            list = ap (λ xs. values_of xs) is ∙ ap (λ xs. e.1 ∷ xs) rest.list ∙ sym (ap (λ b. if b then region ∷ e.1 ∷ values_of es else e.1 ∷ with_region region (values_of es)) test);
          }

-- ---- one region fewer

-- regions that start above this one stay
kept_all : (low start : ℕ) (es : List (ℕ × Region)) → start < low → IsFrom low es → filter (λ (r : Region). not (r.start == start)) (values_of es) ≡ values_of es
kept_all low start [] below f = refl
kept_all low start (e ∷ es) below f =
    let low_is = f.0 in
    let key = f.1 in
    let long = f.2 in
    let no : (e.1.start == start) ≡ false = grind (arith, nat_tests) in
    ap (λ b. cond (not b) (e.1 ∷ filter (λ (r : Region). not (r.start == start)) (values_of es)) (filter (λ (r : Region). not (r.start == start)) (values_of es))) no
    ∙ ap (λ xs. e.1 ∷ xs) (kept_all (e.1.last + 1) start es (omega arith) f.3)

pub record Drops (low start : ℕ) (es : List (ℕ × Region)) : Type 0 where
  pub from : IsFrom low (remove_entry (is_at (nat_cmp start)) es)
  pub list : values_of (remove_entry (is_at (nat_cmp start)) es) ≡ filter (λ (r : Region). not (r.start == start)) (values_of es)
  pub was : is_some (lookup (is_at (nat_cmp start)) es) ≡ list_any (λ (r : Region). r.start == start) (values_of es)

at_key : (start : ℕ) (e : ℕ × Region) → e.0 ≡ e.1.start → is_eq (nat_cmp start e.0) ≡ (e.1.start == start)
at_key start e key = grind (arith, nat_tests)

pub drops : (low start : ℕ) (es : List (ℕ × Region)) → IsFrom low es → Drops low start es
drops low start [] f = record { from = tt; list = refl; was = refl }
drops low start (e ∷ es) f = by (e.1.start == start) refl (drops (e.1.last + 1) start es f.3) where
  by : (b : Bool) → (e.1.start == start) ≡ b → Drops (e.1.last + 1) start es → Drops low start (e ∷ es)
  by true h rest =
      let here : is_eq (nat_cmp start e.0) ≡ true = at_key start e f.1 ∙ h in
      let long = f.2 in
      let low_is = f.0 in
      let key = f.1 in
      let is_start : e.1.start ≡ start = grind (arith, nat_tests) in
      record {
        from = subst (λ xs. IsFrom low xs) (sym (ap (λ b. cond b es (e ∷ remove_entry (is_at (nat_cmp start)) es)) here)) (from_less low (e.1.last + 1) es (omega arith) f.3);
        list = ap (λ b. values_of (cond b es (e ∷ remove_entry (is_at (nat_cmp start)) es))) here
            ∙ sym (kept_all (e.1.last + 1) start es (omega arith) f.3)
            ∙ sym (ap (λ b. cond (not b) (e.1 ∷ filter (λ (r : Region). not (r.start == start)) (values_of es)) (filter (λ (r : Region). not (r.start == start)) (values_of es))) h);
        was = ap (λ b. is_some (cond b (Some e.1) (lookup (is_at (nat_cmp start)) es))) here ∙ sym (ap (λ b. b || list_any (λ (r : Region). r.start == start) (values_of es)) h);
      }
  by false h rest =
      let here : is_eq (nat_cmp start e.0) ≡ false = at_key start e f.1 ∙ h in
      record {
        from = subst (λ xs. IsFrom low xs) (sym (ap (λ b. cond b es (e ∷ remove_entry (is_at (nat_cmp start)) es)) here)) (f.0, f.1, f.2, rest.from);
        list = ap (λ b. values_of (cond b es (e ∷ remove_entry (is_at (nat_cmp start)) es))) here ∙ ap (λ xs. e.1 ∷ xs) rest.list
            ∙ sym (ap (λ b. cond (not b) (e.1 ∷ filter (λ (r : Region). not (r.start == start)) (values_of es)) (filter (λ (r : Region). not (r.start == start)) (values_of es))) h);
        was = ap (λ b. is_some (cond b (Some e.1) (lookup (is_at (nat_cmp start)) es))) here ∙ rest.was ∙ sym (ap (λ b. b || list_any (λ (r : Region). r.start == start) (values_of es)) h);
      }
