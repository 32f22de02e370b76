-- The ranges that are taken in a space: one more, one fewer, and the places that they leave.
use Rattle.std.proofs.Common.{◌≡◌, ◌≢◌, ℕ, zero, suc, ◌+◌, ◌%◌, ◌<◌, ◌≤◌, ◌⊎◌, inl, inr, refl, subst, ap, sym, ◌∙◌, arith, Bool, true, false, cond, ◌==◌, ◌||◌, ◌&&◌, not, nat_le, if◌then◌else◌, List, [], ◌∷◌, ◌++◌, Some, None, filter, find, map, All, true≢false}
use Rattle.std.specs.List.{list_any, AllPairs, slice_index, slice_index_or}
use Rattle.std.proofs.lemmas.Bool.Decides.{nat_tests, leb_tells, eqb_tells}
use Rattle.std.proofs.lemmas.Bool.{eqb-true, leb-true}
use Rattle.std.proofs.lemmas.List.Elements.{All-push, All-weaker, All-filter, All-cons, All-head, All-tail}
use Rattle.std.proofs.lemmas.List.Kept.{AllPairs-filter}
use Rattle.std.proofs.lemmas.List.Quantifiers.{all_pairs_push}
use Rattle.vd_model.specs.Place.{Slots, meets, greatest, is_place, place_of}
use Rattle.vd_num.specs.Number.{power_from}
use Rattle.vd_iova.specs.Space.{Space, taken_of, taken_at}
use Rattle.vd_iova.proofs.Places.{any_at, any_found}
use Rattle.vd_domain.specs.Held.{Holding, IsTaken, IsApart, AreTaken}

-- ---- tests of lists

pub any_more : {X : Type 0} (f : X → Bool) (xs ys : List X) → list_any f (xs ++ ys) ≡ (list_any f xs || list_any f ys)
any_more f [] ys = refl
any_more f (x ∷ xs) ys = ap (λ b. f x || b) (any_more f xs ys) ∙ or_assoc (f x) (list_any f xs) (list_any f ys) where
  or_assoc : (a b c : Bool) → (a || (b || c)) ≡ ((a || b) || c)
  or_assoc true b c = refl
  or_assoc false b c = refl

pub any_map : {X Y : Type 0} (f : X → Y) (p : Y → Bool) (q : X → Bool) → ((x : X) → p (f x) ≡ q x) → (xs : List X) → list_any p (map f xs) ≡ list_any q xs
any_map f p q same [] = refl
any_map f p q same (x ∷ xs) = ap (λ b. b || list_any p (map f xs)) (same x) ∙ ap (λ b. q x || b) (any_map f p q same xs)

-- one that passes gives what each that passes gives
pub any_use : {X : Type 0} (C : Type 0) (f : X → Bool) (xs : List X) → list_any f xs ≡ true → All (λ x. f x ≡ true → C) xs → C
any_use C f [] e all = absurd (true≢false (sym e))
any_use {X} C f (x ∷ xs) e all = by (f x) refl (λ rest. any_use C f xs rest (All-tail (λ x. f x ≡ true → C) x xs all)) where
  by : (b : Bool) → f x ≡ b → (list_any f xs ≡ true → C) → C
  by true h later = All-head (λ x. f x ≡ true → C) x xs all h
  by false h later = later (sym (ap (λ b. b || list_any f xs) h) ∙ e)

pub any_by : {X : Type 0} (f g : X → Bool) (xs : List X) → list_any f xs ≡ true → All (λ x. f x ≡ true → g x ≡ true) xs → list_any g xs ≡ true
any_by f g [] e all = e
any_by f g (x ∷ xs) e all = by (f x) refl (λ rest. any_by f g xs rest (All-tail (λ x. f x ≡ true → g x ≡ true) x xs all)) where
  or_true : (b : Bool) → (b || true) ≡ true
  or_true true = refl
  or_true false = refl

  by : (b : Bool) → f x ≡ b → (list_any f xs ≡ true → list_any g xs ≡ true) → (g x || list_any g xs) ≡ true
  by true h later = ap (λ b. b || list_any g xs) (All-head (λ x. f x ≡ true → g x ≡ true) x xs all h)
  by false h later = ap (λ b. g x || b) (later (sym (ap (λ b. b || list_any f xs) h) ∙ e)) ∙ or_true (g x)

pub any_none : {X : Type 0} (f : X → Bool) (xs : List X) → All (λ x. f x ≡ false) xs → list_any f xs ≡ false
any_none f [] all = refl
any_none f (x ∷ xs) all = ap (λ b. b || list_any f xs) (All-head (λ x. f x ≡ false) x xs all) ∙ any_none f xs (All-tail (λ x. f x ≡ false) x xs all)

pub found_all : {X : Type 0} (P : X → Type 0) (p : X → Bool) (xs : List X) (x : X) → All P xs → find p xs ≡ Some x → P x
found_all P p [] x all e = absurd (none_some e) where
  none_some : None ≡ Some x → ⊥
  none_some f = cc
found_all P p (y ∷ ys) x all e = by (p y) refl (λ rest. found_all P p ys x (All-tail P y ys all) rest) where
  by : (b : Bool) → p y ≡ b → (find p ys ≡ Some x → P x) → P x
  by true h later = let hit : Some y ≡ Some x = sym (ap (λ b. cond b (Some y) (find p ys)) h) ∙ e in let same : y ≡ x = cc in subst P same (All-head P y ys all)
  by false h later = later (sym (ap (λ b. cond b (Some y) (find p ys)) h) ∙ e)

pub pairs_head : {X : Type 0} (R : X → X → Type 0) (x : X) (xs : List X) → AllPairs R (x ∷ xs) → All (R x) xs
pairs_head R x xs all = λ k d below. all 0 (suc k) d (omega arith) (omega arith)

pub pairs_tail : {X : Type 0} (R : X → X → Type 0) (x : X) (xs : List X) → AllPairs R (x ∷ xs) → AllPairs R xs
pairs_tail R x xs all = λ i j d less below. all (suc i) (suc j) d (omega arith) (omega arith)

pub all_kept : {X : Type 0} (p : X → Bool) (xs : List X) → All (λ x. p x ≡ true) xs → filter p xs ≡ xs
all_kept p [] all = refl
all_kept p (x ∷ xs) all = ap (λ b. cond b (x ∷ filter p xs) (filter p xs)) (All-head (λ x. p x ≡ true) x xs all) ∙ ap (λ ys. x ∷ ys) (all_kept p xs (All-tail (λ x. p x ≡ true) x xs all))

-- ---- those of other numbers

other_test : (a b : ℕ) → a ≢ b → not (a == b) ≡ true
other_test a b ne = grind (arith, nat_tests)

pub differ : (a b : ℕ) → a ≢ b → (a == b) ≡ false
differ a b ne = grind (arith, nat_tests)

pub is_same : (a : ℕ) → (a == a) ≡ true
is_same a = grind (arith, nat_tests)

-- where the first has the number, the others stay
pub rest_kept : (a : ℕ) (h : Holding) (hs : List Holding) → h.number ≡ a → AllPairs IsApart (h ∷ hs) → filter (λ (k : Holding). not (k.number == a)) hs ≡ hs
rest_kept a h hs is apart = all_kept (λ (k : Holding). not (k.number == a)) hs (All-weaker (IsApart h) (λ k. not (k.number == a) ≡ true) (λ k r. other_test k.number a (λ e. r.numbers (e ∙ sym is))) hs (pairs_head IsApart h hs apart))

slots_differ : (h k : Holding) → 0 < h.count → 0 < k.count → IsApart h k → k.slot ≢ h.slot
slots_differ h k some any r same = elim r.slots [ inl before ↦ omega arith | inr after ↦ omega arith ]

Some_of : Holding → Type 0
Some_of h = 0 < h.count

pub others_differ : (a : ℕ) (hs : List Holding) (g : Holding) → AllPairs IsApart hs → All (λ (h : Holding). 0 < h.count) hs → find (λ (h : Holding). h.number == a) hs ≡ Some g
    → All (λ (k : Holding). k.slot ≢ g.slot) (filter (λ (h : Holding). not (h.number == a)) hs)
others_differ a [] g apart some e = absurd (let f : None ≡ Some g = e in none_some f) where
  none_some : None ≡ Some g → ⊥
  none_some f = cc
others_differ a (h ∷ hs) g apart some e = by (h.number == a) refl (others_differ a hs g (pairs_tail IsApart h hs apart) (All-tail (λ (h : Holding). 0 < h.count) h hs some)) where
  P : Holding → Type 0
  P k = k.slot ≢ g.slot

  rest : List Holding
  rest = filter (λ (h : Holding). not (h.number == a)) hs

  heads : All (IsApart h) hs
  heads = pairs_head IsApart h hs apart

  here : 0 < h.count
  here = All-head (λ (h : Holding). 0 < h.count) h hs some

  by : (b : Bool) → (h.number == a) ≡ b → (find (λ (h : Holding). h.number == a) hs ≡ Some g → All (λ (k : Holding). k.slot ≢ g.slot) (filter (λ (h : Holding). not (h.number == a)) hs))
      → All (λ (k : Holding). k.slot ≢ g.slot) (filter (λ (h : Holding). not (h.number == a)) (h ∷ hs))
  by true t later =
      let hit : Some h ≡ Some g = sym (ap (λ b. cond b (Some h) (find (λ (h : Holding). h.number == a) hs)) t) ∙ e in
      let is : h ≡ g = cc in
      let all : All (λ (k : Holding). k.slot ≢ h.slot) hs = (λ k d below. slots_differ h (slice_index_or hs k d) here (All-tail (λ (h : Holding). 0 < h.count) h hs some k d below) (heads k d below)) in
      subst (λ (ks : List Holding). All (λ (k : Holding). k.slot ≢ g.slot) ks)
      (sym (ap (λ b. cond (not b) (h ∷ filter (λ (h : Holding). not (h.number == a)) hs) (filter (λ (h : Holding). not (h.number == a)) hs)) t ∙ rest_kept a h hs (eqb-true h.number a t) apart))
      (subst (λ (x : Holding). All (λ (k : Holding). k.slot ≢ x.slot) hs) is all)
  by false t later =
      let found : find (λ (h : Holding). h.number == a) hs ≡ Some g = sym (ap (λ b. cond b (Some h) (find (λ (h : Holding). h.number == a) hs)) t) ∙ e in
      let r : IsApart h g = found_all (IsApart h) (λ (h : Holding). h.number == a) hs g heads found in
      let any : 0 < g.count = found_all (λ (h : Holding). 0 < h.count) (λ (h : Holding). h.number == a) hs g (All-tail (λ (h : Holding). 0 < h.count) h hs some) found in
      subst (λ (ks : List Holding). All (λ (k : Holding). k.slot ≢ g.slot) ks)
      (sym (ap (λ b. cond (not b) (h ∷ filter (λ (h : Holding). not (h.number == a)) hs) (filter (λ (h : Holding). not (h.number == a)) hs)) t))
      (All-cons (λ (k : Holding). k.slot ≢ g.slot) h (filter (λ (h : Holding). not (h.number == a)) hs) (λ same. slots_differ h g here any r (sym same)) (later found))

pub any_kept : (a q : ℕ) (hs : List Holding) (g : Holding) → AllPairs IsApart hs → find (λ (h : Holding). h.number == a) hs ≡ Some g → g.slot ≢ q
    → list_any (λ (h : Holding). h.slot == q) hs ≡ true → list_any (λ (h : Holding). h.slot == q) (filter (λ (h : Holding). not (h.number == a)) hs) ≡ true
any_kept a q [] g apart e ne any = any
any_kept a q (h ∷ hs) g apart e ne any = by (h.number == a) refl (any_kept a q hs g (pairs_tail IsApart h hs apart)) where
  F : List Holding → List Holding
  F ks = filter (λ (h : Holding). not (h.number == a)) ks

  by : (b : Bool) → (h.number == a) ≡ b
      → (find (λ (h : Holding). h.number == a) hs ≡ Some g → g.slot ≢ q → list_any (λ (h : Holding). h.slot == q) hs ≡ true → list_any (λ (h : Holding). h.slot == q) (filter (λ (h : Holding). not (h.number == a)) hs) ≡ true)
      → list_any (λ (h : Holding). h.slot == q) (filter (λ (h : Holding). not (h.number == a)) (h ∷ hs)) ≡ true
  by true t later =
      let hit : Some h ≡ Some g = sym (ap (λ b. cond b (Some h) (find (λ (h : Holding). h.number == a) hs)) t) ∙ e in
      let is : h ≡ g = cc in
      let off : (h.slot == q) ≡ false = differ h.slot q (λ s. ne (ap (λ (k : Holding). k.slot) (sym is) ∙ s)) in
      ap (λ (ks : List Holding). list_any (λ (h : Holding). h.slot == q) ks)
      (ap (λ b. cond (not b) (h ∷ filter (λ (h : Holding). not (h.number == a)) hs) (filter (λ (h : Holding). not (h.number == a)) hs)) t ∙ rest_kept a h hs (eqb-true h.number a t) apart)
      ∙ sym (ap (λ b. b || list_any (λ (h : Holding). h.slot == q) hs) off) ∙ any
  by false t later =
      let found : find (λ (h : Holding). h.number == a) hs ≡ Some g = sym (ap (λ b. cond b (Some h) (find (λ (h : Holding). h.number == a) hs)) t) ∙ e in
      ap (λ b. list_any (λ (h : Holding). h.slot == q) (cond (not b) (h ∷ filter (λ (h : Holding). not (h.number == a)) hs) (filter (λ (h : Holding). not (h.number == a)) hs))) t
      ∙ by_slot (h.slot == q) refl (later found ne) where
        by_slot : (b : Bool) → (h.slot == q) ≡ b → (list_any (λ (h : Holding). h.slot == q) hs ≡ true → list_any (λ (h : Holding). h.slot == q) (filter (λ (h : Holding). not (h.number == a)) hs) ≡ true)
            → ((h.slot == q) || list_any (λ (h : Holding). h.slot == q) (filter (λ (h : Holding). not (h.number == a)) hs)) ≡ true
        by_slot true s rest = ap (λ b. b || list_any (λ (h : Holding). h.slot == q) (filter (λ (h : Holding). not (h.number == a)) hs)) s
        by_slot false s rest = ap (λ b. b || list_any (λ (h : Holding). h.slot == q) (filter (λ (h : Holding). not (h.number == a)) hs)) s
            ∙ rest (sym (ap (λ b. b || list_any (λ (h : Holding). h.slot == q) hs) s) ∙ any)

-- ---- the ranges of a space

abbrev pub slots_of : Holding → Slots
slots_of h = record { start = h.slot; count = h.count }

-- a range that was taken is among those of the space
pub taken_there : (space : Space) (made : ℕ) (h : Holding) (test : Slots → Bool) → IsTaken space made h → test (slots_of h) ≡ true → list_any test (taken_of space) ≡ true
unfolding taken_of
taken_there space made h test t e =
    any_at test space.counts 0 h.slot (let some = t.some in let taken = t.taken in omega arith)
    (ap test (let first : 0 + h.slot ≡ h.slot = omega arith in let count : slice_index space.counts h.slot ≡ h.count = t.taken in slots_same (0 + h.slot) h.slot (slice_index space.counts h.slot) h.count first count) ∙ e) where
      slots_same : (a b m n : ℕ) → a ≡ b → m ≡ n → (let s : Slots = record { start = a; count = m } in s) ≡ record { start = b; count = n }
      slots_same a b m n p q = cc

pub meets_are : (space : Space) (made : ℕ) (hs : List Holding) → AreTaken space made hs → (start n : ℕ) → list_any (meets start n) (taken_of space) ≡ list_any (λ (h : Holding). meets start n (slots_of h)) hs
unfolding taken_of
meets_are space made hs t start n = by (list_any (meets start n) (taken_of space)) refl (list_any (λ (h : Holding). meets start n (slots_of h)) hs) refl where
  there : list_any (meets start n) (taken_of space) ≡ true → list_any (λ (h : Holding). meets start n (slots_of h)) hs ≡ true
  there e =
      let p = any_found (meets start n) space.counts 0 e in
      any_by (λ (h : Holding). h.slot == p.at) (λ (h : Holding). meets start n (slots_of h)) hs (t.back p.at p.some)
      (λ k d below same.
      let h = slice_index_or hs k d in
      let held = t.each k d below in
      let slot : h.slot ≡ p.at = eqb-true h.slot p.at same in
      let count : h.count ≡ slice_index space.counts p.at = sym held.taken ∙ ap (λ q. slice_index space.counts q) slot in
      ap (meets start n) (slots_same h.slot (0 + p.at) h.count (slice_index space.counts p.at) (slot ∙ (let z : p.at ≡ 0 + p.at = omega arith in z)) count) ∙ p.pass) where
        slots_same : (a b m n : ℕ) → a ≡ b → m ≡ n → (let s : Slots = record { start = a; count = m } in s) ≡ record { start = b; count = n }
        slots_same a b m n p q = cc

  back : list_any (λ (h : Holding). meets start n (slots_of h)) hs ≡ true → list_any (meets start n) (taken_of space) ≡ true
  back e = any_use (list_any (meets start n) (taken_of space) ≡ true) (λ (h : Holding). meets start n (slots_of h)) hs e
      (λ k d below passes. taken_there space made (slice_index_or hs k d) (meets start n) (t.each k d below) passes)

  by : (a : Bool) → list_any (meets start n) (taken_of space) ≡ a → (b : Bool) → list_any (λ (h : Holding). meets start n (slots_of h)) hs ≡ b → a ≡ b
  by true e true f = refl
  by false e false f = refl
  by true e false f = absurd (true≢false (sym (there e) ∙ f))
  by false e true f = absurd (true≢false (sym (back f) ∙ e))

-- ---- places

greatest_same : (p q : ℕ → Bool) → ((k : ℕ) → p k ≡ q k) → (n : ℕ) → greatest p n ≡ greatest q n
unfolding greatest
greatest_same p q same zero = refl
greatest_same p q same (suc n) = ap (λ b. if b then Some n else greatest p n) (same n) ∙ ap (λ o. if q n then Some n else o) (greatest_same p q same n)

and_under : (a b c d e : Bool) → (b ≡ true → c ≡ true → d ≡ e) → (((a && b) && c) && d) ≡ (((a && b) && c) && e)
and_under true true true d e same = same refl refl
and_under true true false d e same = refl
and_under true false c d e same = refl
and_under false b c d e same = refl

-- places depend on what the ranges between the bounds meet
pub place_same : (xs ys : List Slots) (n lo hi : ℕ) → ((s : ℕ) → lo ≤ s → s + n ≤ hi → list_any (meets s n) xs ≡ list_any (meets s n) ys) → place_of xs n lo hi ≡ place_of ys n lo hi
unfolding place_of
place_same xs ys n lo hi same = greatest_same (is_place xs n lo hi) (is_place ys n lo hi) agree hi where
  agree : (s : ℕ) → is_place xs n lo hi s ≡ is_place ys n lo hi s
  agree s = and_under ((s % power_from n) == 0) (nat_le lo s) (nat_le (s + n) hi) (not (list_any (meets s n) xs)) (not (list_any (meets s n) ys))
      (λ low high. ap not (same s (leb-true lo s low) (leb-true (s + n) hi high)))

-- a place passes
pub greatest_passes : (p : ℕ → Bool) (n s : ℕ) → Some s ≡ greatest p n → p s ≡ true
unfolding greatest
greatest_passes p zero s e = absurd (let f : Some s ≡ None = e in cc)
greatest_passes p (suc n) s e = by (p n) refl (greatest_passes p n s) where
  by : (b : Bool) → p n ≡ b → (Some s ≡ greatest p n → p s ≡ true) → p s ≡ true
  by true h later = let hit : Some s ≡ Some n = e ∙ ap (λ b. if b then Some n else greatest p n) h in let is : s ≡ n = cc in ap p is ∙ h
  by false h later = later (e ∙ ap (λ b. if b then Some n else greatest p n) h)

last_of : (a b c d : Bool) → (((a && b) && c) && not d) ≡ true → d ≡ false
last_of a b c false e = refl
last_of true true true true e = absurd (true≢false (sym e))
last_of true true false true e = absurd (true≢false (sym e))
last_of true false c true e = absurd (true≢false (sym e))
last_of false b c true e = absurd (true≢false (sym e))

pub place_clear : (xs : List Slots) (n lo hi s : ℕ) → Some s ≡ place_of xs n lo hi → list_any (meets s n) xs ≡ false
unfolding place_of
place_clear xs n lo hi s e = last_of ((s % power_from n) == 0) (nat_le lo s) (nat_le (s + n) hi) (list_any (meets s n) xs) (greatest_passes (is_place xs n lo hi) hi s e)

-- a range that doesn't meet another ends before it or begins behind it
clear_sides : (s n : ℕ) (h : Holding) → meets s n (slots_of h) ≡ false → (h.slot + h.count ≤ s) ⊎ (s + n ≤ h.slot)
clear_sides s n h off = elim (leb_tells (h.slot + h.count) s) [
  | inl before ↦ inl before.1
  | inr over ↦ elim (leb_tells (s + n) h.slot) [
    | inl behind ↦ inr behind.1
    | inr both ↦
        (let o = over.1 in
        let b = both.1 in
        let hit : meets s n (slots_of h) ≡ true = grind (arith, nat_tests) in
        absurd (true≢false (sym hit ∙ off)))
  ]
]

-- ---- one more, and one fewer

pub record Gains (h : Holding) (old new : Space) : Type 0 where
  pub first : new.first ≡ old.first
  pub top : new.«end» ≡ old.«end»
  pub low : old.first ≤ h.slot
  pub high : h.slot + h.count ≤ old.«end»
  pub fresh : taken_at old h.slot ≡ 0
  pub taken : (q : ℕ) → taken_at new q ≡ (if q == h.slot then h.count else taken_at old q)
  pub clear : list_any (meets h.slot h.count) (taken_of old) ≡ false

pub taken_more : (old new : Space) (made : ℕ) (hs : List Holding) (h : Holding) → AreTaken old made hs → h.number ≡ made → 0 < h.count → Gains h old new → AreTaken new (made + 1) (hs ++ h ∷ [])
taken_more old new made hs h t number some gains = record {
  each = All-push (IsTaken new (made + 1)) hs h (All-weaker (IsTaken old made) (IsTaken new (made + 1)) still hs t.each) here;
  apart = all_pairs_push IsApart hs h t.apart (λ k d below. apart_from (slice_index_or hs k d) (t.each k d below));
  back = back;
} where
  new_slot : (k : Holding) → IsTaken old made k → k.slot ≢ h.slot
  new_slot k held same =
      let some = held.some in
      let is = held.taken in
      let none : taken_at old k.slot ≡ 0 = ap (λ q. taken_at old q) same ∙ gains.fresh in
      omega arith

  still : (k : Holding) → IsTaken old made k → IsTaken new (made + 1) k
  still k held = record {
    some = held.some;
    low = (let low = held.low in let first = gains.first in omega arith);
    high = (let high = held.high in let top = gains.top in omega arith);
    taken = gains.taken k.slot ∙ rw (differ k.slot h.slot (new_slot k held)) held.taken;
    number = (let number = held.number in omega arith);
  }

  here : IsTaken new (made + 1) h
  here = record {
    some = some;
    low = (let low = gains.low in let first = gains.first in omega arith);
    high = (let high = gains.high in let top = gains.top in omega arith);
    taken = gains.taken h.slot ∙ ap (λ b. if b then h.count else taken_at old h.slot) (is_same h.slot);
    number = (let n = number in omega arith);
  }

  apart_from : (k : Holding) → IsTaken old made k → IsApart k h
  apart_from k held = record {
    slots = clear_sides h.slot h.count k (by (meets h.slot h.count (slots_of k)) refl);
    numbers = λ same. (let below = held.number in let n = number in omega arith);
  } where
    by : (b : Bool) → meets h.slot h.count (slots_of k) ≡ b → meets h.slot h.count (slots_of k) ≡ false
    by false e = e
    by true e = absurd (true≢false (sym (taken_there old made k (meets h.slot h.count) held e) ∙ gains.clear))

  or_true : (b : Bool) → (b || true) ≡ true
  or_true true = refl
  or_true false = refl

  back : (q : ℕ) → 0 < taken_at new q → list_any (λ (k : Holding). k.slot == q) (hs ++ h ∷ []) ≡ true
  back q any = any_more (λ (k : Holding). k.slot == q) hs (h ∷ []) ∙ elim (eqb_tells q h.slot) [
    | inl same ↦
        (let hit : (h.slot == q) ≡ true = ap (λ s. h.slot == s) same.1 ∙ is_same h.slot in
        ap (λ b. list_any (λ (k : Holding). k.slot == q) hs || (b || false)) hit ∙ or_true (list_any (λ (k : Holding). k.slot == q) hs))
    | inr other ↦
        (let was : taken_at new q ≡ taken_at old q = gains.taken q ∙ ap (λ b. if b then h.count else taken_at old q) other.0 in
        ap (λ b. b || list_any (λ (k : Holding). k.slot == q) (h ∷ [])) (t.back q (omega arith)))
  ]

pub record Loses (h : Holding) (old new : Space) : Type 0 where
  pub first : new.first ≡ old.first
  pub top : new.«end» ≡ old.«end»
  pub taken : (q : ℕ) → taken_at new q ≡ (if q == h.slot then 0 else taken_at old q)

pub taken_fewer : (old new : Space) (made : ℕ) (hs : List Holding) (a : ℕ) (g : Holding) → AreTaken old made hs → find (λ (h : Holding). h.number == a) hs ≡ Some g → Loses g old new
    → AreTaken new made (filter (λ (h : Holding). not (h.number == a)) hs)
taken_fewer old new made hs a g t found loses = record {
  each = λ k d below. still (slice_index_or (filter (λ (h : Holding). not (h.number == a)) hs) k d) (kept k d below) (others k d below);
  apart = AllPairs-filter IsApart (λ (h : Holding). not (h.number == a)) hs t.apart;
  back = back;
} where
  kept : All (IsTaken old made) (filter (λ (h : Holding). not (h.number == a)) hs)
  kept = All-filter (λ (h : Holding). not (h.number == a)) (IsTaken old made) hs t.each

  others : All (λ (k : Holding). k.slot ≢ g.slot) (filter (λ (h : Holding). not (h.number == a)) hs)
  others = others_differ a hs g t.apart (All-weaker (IsTaken old made) (λ (h : Holding). 0 < h.count) (λ h held. held.some) hs t.each) found

  still : (k : Holding) → IsTaken old made k → k.slot ≢ g.slot → IsTaken new made k
  still k held ne = record {
    some = held.some;
    low = (let low = held.low in let first = loses.first in omega arith);
    high = (let high = held.high in let top = loses.top in omega arith);
    taken = loses.taken k.slot ∙ rw (differ k.slot g.slot ne) held.taken;
    number = held.number;
  }

  back : (q : ℕ) → 0 < taken_at new q → list_any (λ (k : Holding). k.slot == q) (filter (λ (h : Holding). not (h.number == a)) hs) ≡ true
  back q any = elim (eqb_tells q g.slot) [
    | inl same ↦
        (let gone : taken_at new q ≡ 0 = loses.taken q ∙ ap (λ b. if b then 0 else taken_at old q) same.0 in
        absurd (omega arith))
    | inr other ↦
        (let was : taken_at new q ≡ taken_at old q = loses.taken q ∙ ap (λ b. if b then 0 else taken_at old q) other.0 in
        any_kept a q hs g t.apart found (λ s. other.1 (sym s)) (t.back q (omega arith)))
  ]

-- the range of a number is taken
pub held_is : (space : Space) (made : ℕ) (hs : List Holding) (a : ℕ) (g : Holding) → AreTaken space made hs → find (λ (h : Holding). h.number == a) hs ≡ Some g → IsTaken space made g
held_is space made hs a g t found = found_all (IsTaken space made) (λ (h : Holding). h.number == a) hs g t.each found
