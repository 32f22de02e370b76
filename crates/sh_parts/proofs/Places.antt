-- The place that an address space gives is the one among all that is live.
use Rattle.std.proofs.Common.{◌≡◌, ◌≢◌, ℕ, zero, suc, ◌+◌, ◌%◌, ◌<◌, ◌≤◌, ◌⊎◌, ⊎_elim, inl, inr, refl, subst, ap, sym, ◌∙◌, arith, Bool, true, false, cond, ◌==◌, ◌&&◌, ◌||◌, not, nat_le, if◌then◌else◌, List, [], ◌∷◌, ◌++◌, Some, map, filter, find, true≢false}
use Rattle.std.proofs.lemmas.Bool.Decides.{nat_tests, leb_tells}
use Rattle.std.specs.List.{list_any}
use Rattle.std.specs.Option.{option_map}
use Rattle.std.proofs.lemmas.List.Folds.{list_any-append}
use Rattle.vd_num.specs.Number.{power_from}
use Rattle.vd_model.specs.Place.{Slots, greatest, meets, is_place, place_of}
use Rattle.vd_iova.specs.Space.{Space, ranges_from, taken_of, taken_at}
use Rattle.vd_iova.proofs.Places.{any_at, any_found}
use Rattle.sh_parts.specs.declared.memory.Live.{Live}
use Rattle.sh_parts.specs.Memory.{slots_of, IsNew, AreApart, count_at, IsKept}

-- ---- lists seen through a function

pub any_map : {A B : Type 0} (p : B → Bool) (f : A → B) (xs : List A) → list_any p (map f xs) ≡ list_any (λ x. p (f x)) xs
any_map p f [] = refl
any_map p f (x ∷ xs) = ap (λ b. p (f x) || b) (any_map p f xs)

pub any_same : {A : Type 0} (p q : A → Bool) (xs : List A) → ((x : A) → p x ≡ q x) → list_any p xs ≡ list_any q xs
any_same p q [] e = refl
any_same p q (x ∷ xs) e = ap (λ b. b || list_any p xs) (e x) ∙ ap (λ b. q x || b) (any_same p q xs e)

pub filter_map_is : {A B : Type 0} (p : B → Bool) (f : A → B) (xs : List A) → filter p (map f xs) ≡ map f (filter (λ x. p (f x)) xs)
filter_map_is p f [] = refl
filter_map_is p f (x ∷ xs) = by (p (f x)) refl (filter_map_is p f xs) where
  by : (b : Bool) → p (f x) ≡ b → filter p (map f xs) ≡ map f (filter (λ x. p (f x)) xs) → filter p (map f (x ∷ xs)) ≡ map f (filter (λ x. p (f x)) (x ∷ xs))
  by true e rest =
      ap (λ b. cond b (f x ∷ filter p (map f xs)) (filter p (map f xs))) e ∙ ap (λ l. f x ∷ l) rest
      ∙ sym (ap (λ b. map f (cond b (x ∷ filter (λ x. p (f x)) xs) (filter (λ x. p (f x)) xs))) e)
  by false e rest =
      ap (λ b. cond b (f x ∷ filter p (map f xs)) (filter p (map f xs))) e ∙ rest
      ∙ sym (ap (λ b. map f (cond b (x ∷ filter (λ x. p (f x)) xs) (filter (λ x. p (f x)) xs))) e)

pub find_map_is : {A B : Type 0} (p : B → Bool) (f : A → B) (xs : List A) → find p (map f xs) ≡ option_map f (find (λ x. p (f x)) xs)
find_map_is p f [] = refl
find_map_is p f (x ∷ xs) = by (p (f x)) refl (find_map_is p f xs) where
  by : (b : Bool) → p (f x) ≡ b → find p (map f xs) ≡ option_map f (find (λ x. p (f x)) xs) → find p (map f (x ∷ xs)) ≡ option_map f (find (λ x. p (f x)) (x ∷ xs))
  by true e rest =
      ap (λ b. cond b (Some (f x)) (find p (map f xs))) e
      ∙ sym (ap (λ b. option_map f (cond b (Some x) (find (λ x. p (f x)) xs))) e)
  by false e rest =
      ap (λ b. cond b (Some (f x)) (find p (map f xs))) e ∙ rest
      ∙ sym (ap (λ b. option_map f (cond b (Some x) (find (λ x. p (f x)) xs))) e)

pub map_twice : {A B C : Type 0} (g : B → C) (f : A → B) (xs : List A) → map g (map f xs) ≡ map (λ x. g (f x)) xs
map_twice g f [] = refl
map_twice g f (x ∷ xs) = ap (λ l. g (f x) ∷ l) (map_twice g f xs)

-- ---- what meets a range

or_left : (a b : Bool) → a ≡ true → (a || b) ≡ true
or_left a b e = ap (λ x. x || b) e

or_right : (a b : Bool) → b ≡ true → (a || b) ≡ true
or_right true b e = refl
or_right false b e = e

both_ways : (a b : Bool) → (a ≡ true → b ≡ true) → (b ≡ true → a ≡ true) → a ≡ b
both_ways true true f g = refl
both_ways true false f g = sym (f refl)
both_ways false true f g = g refl
both_ways false false f g = refl

-- one that is counted at a page is on the list
counted : (test : Slots → Bool) (ks : List Live) (q : ℕ) → 0 < count_at ks q → test (record { start = q; count = count_at ks q }) ≡ true → list_any (λ k. test (slots_of k)) ks ≡ true
counted test [] q some pass = absurd (omega arith)
counted test (k ∷ ks) q some pass = by (k.page == q) refl (counted test ks q) where
  by : (b : Bool) → (k.page == q) ≡ b → (0 < count_at ks q → test (record { start = q; count = count_at ks q }) ≡ true → list_any (λ k. test (slots_of k)) ks ≡ true) → list_any (λ k. test (slots_of k)) (k ∷ ks) ≡ true
  by true e later =
      let is : k.page ≡ q = grind (arith, nat_tests) in
      let len : count_at (k ∷ ks) q ≡ k.count = ap (λ b. if b then k.count else count_at ks q) e in
      or_left (test (slots_of k)) (list_any (λ k. test (slots_of k)) ks)
      (subst (λ p. test (record { start = p; count = k.count }) ≡ true) (sym is) (subst (λ n. test (record { start = q; count = n }) ≡ true) len pass))
  by false e later =
      let len : count_at (k ∷ ks) q ≡ count_at ks q = ap (λ b. if b then k.count else count_at ks q) e in
      or_right (test (slots_of k)) (list_any (λ k. test (slots_of k)) ks)
      (later (subst (λ n. 0 < n) len some) (subst (λ n. test (record { start = q; count = n }) ≡ true) len pass))

-- a page at which one on the list passes and is counted
record Counted (test : Slots → Bool) (ks : List Live) : Type 0 where
  pub page : ℕ
  pub some : 0 < count_at ks page
  pub pass : test (record { start = page; count = count_at ks page }) ≡ true
  pub listed : (k : Live) → IsNew k ks → k.page ≢ page

listed_at : (n lo hi : ℕ) (test : Slots → Bool) (ks : List Live) → AreApart n lo hi ks → list_any (λ k. test (slots_of k)) ks ≡ true → Counted test ks
listed_at n lo hi test [] a h = absurd (true≢false (sym h))
listed_at n lo hi test (k ∷ ks) a h = by (test (slots_of k)) refl (listed_at n lo hi test ks a.5) where
  by : (b : Bool) → test (slots_of k) ≡ b → (list_any (λ k. test (slots_of k)) ks ≡ true → Counted test ks) → Counted test (k ∷ ks)
  by true e later =
      let here : (k.page == k.page) ≡ true = grind (arith, nat_tests) in
      let len : count_at (k ∷ ks) k.page ≡ k.count = ap (λ b. if b then k.count else count_at ks k.page) here in
      record {
        page = k.page;
        some = subst (λ n. 0 < n) (sym len) a.1;
        pass = subst (λ n. test (record { start = k.page; count = n }) ≡ true) (sym len) e;
        listed = λ j new is. new.1 (sym is);
      }
  by false e later =
      let c = later (sym (ap (λ b. b || list_any (λ k. test (slots_of k)) ks) e) ∙ h) in
      let ne : k.page ≢ c.page = c.listed k a.4 in
      let other : (k.page == c.page) ≡ false = grind (arith, nat_tests) in
      let len : count_at (k ∷ ks) c.page ≡ count_at ks c.page = ap (λ b. if b then k.count else count_at ks c.page) other in
      record {
        page = c.page;
        some = subst (λ n. 0 < n) (sym len) c.some;
        pass = subst (λ n. test (record { start = c.page; count = n }) ≡ true) (sym len) c.pass;
        listed = λ j new. c.listed j new.2;
      }

-- a test passes at what the address space has taken just where it passes at what is live
pub any_taken : (next lo hi : ℕ) (ks : List Live) (space : Space) (test : Slots → Bool) → IsKept next lo hi ks space → list_any test (taken_of space) ≡ list_any (λ k. test (slots_of k)) ks
unfolding taken_of
any_taken next lo hi ks space test kept = both_ways (list_any test (ranges_from 0 space.counts)) (list_any (λ k. test (slots_of k)) ks) to from where
  to : list_any test (ranges_from 0 space.counts) ≡ true → list_any (λ k. test (slots_of k)) ks ≡ true
  to h =
      let p = any_found test space.counts 0 h in
      let len = kept.counts p.at in
      let zero_more : 0 + p.at ≡ p.at = omega arith in
      counted test ks p.at (subst (λ n. 0 < n) len p.some)
      (subst (λ n. test (record { start = p.at; count = n }) ≡ true) len (subst (λ q. test (record { start = q; count = taken_at space p.at }) ≡ true) zero_more p.pass))

  from : list_any (λ k. test (slots_of k)) ks ≡ true → list_any test (ranges_from 0 space.counts) ≡ true
  from h =
      let c = listed_at next lo hi test ks kept.apart h in
      let len = sym (kept.counts c.page) in
      let zero_more : c.page ≡ 0 + c.page = omega arith in
      any_at test space.counts 0 c.page (subst (λ n. 0 < n) len c.some)
      (subst (λ q. test (record { start = q; count = taken_at space c.page }) ≡ true) zero_more (subst (λ n. test (record { start = c.page; count = n }) ≡ true) len c.pass))

-- ---- the place

pub greatest_same : (p q : ℕ → Bool) (n : ℕ) → ((k : ℕ) → p k ≡ q k) → greatest p n ≡ greatest q n
unfolding greatest
greatest_same p q zero e = refl
greatest_same p q (suc n) e = ap (λ b. cond b (Some n) (greatest p n)) (e n) ∙ ap (λ o. cond (q n) (Some n) o) (greatest_same p q n e)

-- only what meets a range within lo and hi counts
pub place_same : (ts us : List Slots) (n lo hi : ℕ) → ((s : ℕ) → lo ≤ s → s + n ≤ hi → list_any (meets s n) ts ≡ list_any (meets s n) us) → place_of ts n lo hi ≡ place_of us n lo hi
unfolding place_of
place_same ts us n lo hi e = greatest_same (is_place ts n lo hi) (is_place us n lo hi) hi at where
  at : (s : ℕ) → is_place ts n lo hi s ≡ is_place us n lo hi s
  at s = elim (leb_tells lo s) [
    | inr below ↦ (let k = below.1 in
        let no : nat_le lo s ≡ false = grind (arith, nat_tests) in
        none s ((s % power_from n) == 0) (nat_le lo s) (nat_le (s + n) hi) (inl no))
    | inl low ↦ elim (leb_tells (s + n) hi) [
      | inr above ↦ (let k = above.1 in
          let no : nat_le (s + n) hi ≡ false = grind (arith, nat_tests) in
          none s ((s % power_from n) == 0) (nat_le lo s) (nat_le (s + n) hi) (inr no))
      | inl high ↦ ap (λ b. ((s % power_from n) == 0) && nat_le lo s && nat_le (s + n) hi && not b) (e s low.1 high.1)
    ]
  ] where
    none : (s : ℕ) (a b c : Bool) → (b ≡ false) ⊎ (c ≡ false) → (a && b && c && not (list_any (meets s n) ts)) ≡ (a && b && c && not (list_any (meets s n) us))
    none s false b c o = refl
    none s true false c o = refl
    none s true true false o = refl
    none s true true true (inl e) = absurd (true≢false e)
    none s true true true (inr e) = absurd (true≢false e)

-- nothing that ends at lo or starts at hi meets a range between
pub none_meets : (n lo hi : ℕ) (ks : List Live) (s len : ℕ) → AreApart n lo hi ks → (s + len ≤ lo) ⊎ (hi ≤ s) → list_any (λ k. meets s len (slots_of k)) ks ≡ false
none_meets n lo hi [] s len a o = refl
none_meets n lo hi (k ∷ ks) s len a o =
    let low = a.2 in
    let high = a.3 in
    let no : meets s len (slots_of k) ≡ false = ⊎_elim (λ (h : s + len ≤ lo). past low high h) (λ (h : hi ≤ s). before low high h) o in
    ap (λ b. b || list_any (λ k. meets s len (slots_of k)) ks) no ∙ none_meets n lo hi ks s len a.5 o where
      past : lo ≤ k.page → k.page + k.count ≤ hi → s + len ≤ lo → meets s len (slots_of k) ≡ false
      past low high h = grind (arith, nat_tests)

      before : lo ≤ k.page → k.page + k.count ≤ hi → hi ≤ s → meets s len (slots_of k) ≡ false
      before low high h = grind (arith, nat_tests)

or_false : (a b : Bool) → b ≡ false → a ≡ (a || b)
or_false true b e = refl
or_false false b e = sym e

false_or : (a b : Bool) → a ≡ false → b ≡ (a || b)
false_or true b e = absurd (true≢false e)
false_or false b e = refl

module _ (next one mid top : ℕ) (ks js : List Live) (low high : Space) (a : IsKept next one mid ks low) (b : IsKept next mid top js high) (n : ℕ) where
  abbrev pub all : List Slots
  all = map slots_of ks ++ map slots_of js

  met : (s : ℕ) → list_any (meets s n) all ≡ (list_any (λ k. meets s n (slots_of k)) ks || list_any (λ k. meets s n (slots_of k)) js)
  met s =
      list_any-append (meets s n) (map slots_of ks) (map slots_of js)
      ∙ ap (λ c. c || list_any (meets s n) (map slots_of js)) (any_map (meets s n) slots_of ks)
      ∙ ap (λ c. list_any (λ k. meets s n (slots_of k)) ks || c) (any_map (meets s n) slots_of js)

  pub low_place : place_of (taken_of low) n low.first low.«end» ≡ place_of all n one mid
  low_place =
      ap (λ lo. place_of (taken_of low) n lo low.«end») a.first ∙ ap (λ hi. place_of (taken_of low) n one hi) a.last
      ∙ place_same (taken_of low) all n one mid (λ s from to.
      any_taken next one mid ks low (meets s n) a
      ∙ or_false (list_any (λ k. meets s n (slots_of k)) ks) (list_any (λ k. meets s n (slots_of k)) js) (none_meets next mid top js s n b.apart (inl to))
      ∙ sym (met s))

  pub high_place : place_of (taken_of high) n high.first high.«end» ≡ place_of all n mid top
  high_place =
      ap (λ lo. place_of (taken_of high) n lo high.«end») b.first ∙ ap (λ hi. place_of (taken_of high) n mid hi) b.last
      ∙ place_same (taken_of high) all n mid top (λ s from to.
      any_taken next mid top js high (meets s n) b
      ∙ false_or (list_any (λ k. meets s n (slots_of k)) ks) (list_any (λ k. meets s n (slots_of k)) js) (none_meets next one mid ks s n a.apart (inr from))
      ∙ sym (met s))
