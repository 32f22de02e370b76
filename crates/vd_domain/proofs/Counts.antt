-- How many live mappings meet a page.
use Rattle.std.proofs.Common.{◌≡◌, ℕ, suc, ◌+◌, ◌<◌, refl, subst, ap, sym, ◌∙◌, arith, Bool, true, false, cond, ◌==◌, ◌||◌, not, if◌then◌else◌, List, [], ◌∷◌, ◌++◌, length, Some, None, filter, find, map, nat_lt, length-append}
use Rattle.std.specs.List.{AllPairs, list_any}
use Rattle.std.proofs.lemmas.Bool.{eqb-true}
use Rattle.std.proofs.lemmas.Bool.Decides.{nat_tests}
use Rattle.std.proofs.lemmas.List.Elements.{filter-append}
use Rattle.vd_domain.specs.Held.{Holding, IsApart}
use Rattle.vd_domain.proofs.Entries.{mapped_fewer}
use Rattle.vd_domain.proofs.Holdings.{pairs_tail, rest_kept}

pub map_len : {X Y : Type 0} (f : X → Y) (xs : List X) → length (map f xs) ≡ length xs
map_len f [] = refl
map_len f (x ∷ xs) = ap (λ n. suc n) (map_len f xs)

pub count_map : {X Y : Type 0} (f : X → Y) (p : Y → Bool) (q : X → Bool) → ((x : X) → p (f x) ≡ q x) → (xs : List X) → length (filter p (map f xs)) ≡ length (filter q xs)
count_map f p q same xs = sym (ap length (mapped_fewer f q p same xs)) ∙ map_len f (filter q xs)

pub count_more : {X : Type 0} (p : X → Bool) (xs : List X) (x : X) → length (filter p (xs ++ x ∷ [])) ≡ (if p x then length (filter p xs) + 1 else length (filter p xs))
count_more {X} p xs x = ap length (filter-append p xs (x ∷ [])) ∙ length-append (filter p xs) (filter p (x ∷ [])) ∙ by (p x) where
  by : (b : Bool) → length (filter p xs) + length (cond b (x ∷ []) []) ≡ (if b then length (filter p xs) + 1 else length (filter p xs))
  by true = refl
  by false = omega arith

pub count_any : {X : Type 0} (p : X → Bool) (xs : List X) → nat_lt 0 (length (filter p xs)) ≡ list_any p xs
count_any p [] = refl
count_any p (x ∷ xs) = by (p x) (count_any p xs) where
  by : (b : Bool) → nat_lt 0 (length (filter p xs)) ≡ list_any p xs → nat_lt 0 (length (cond b (x ∷ filter p xs) (filter p xs))) ≡ (b || list_any p xs)
  by true rest = positive (length (filter p xs)) where
    positive : (n : ℕ) → nat_lt 0 (suc n) ≡ true
    positive n = grind (arith, nat_tests)
  by false rest = rest

-- one that passes is counted
pub count_found : {X : Type 0} (p q : X → Bool) (xs : List X) (x : X) → find q xs ≡ Some x → p x ≡ true → 0 < length (filter p xs)
count_found p q [] x e t = absurd (let f : None ≡ Some x = e in cc)
count_found p q (y ∷ ys) x e t = by (q y) refl (λ rest. count_found p q ys x rest t) where
  more : (b : Bool) → 0 < length (filter p ys) → 0 < length (cond b (y ∷ filter p ys) (filter p ys))
  more true h = omega arith
  more false h = h

  by : (b : Bool) → q y ≡ b → (find q ys ≡ Some x → 0 < length (filter p ys)) → 0 < length (cond (p y) (y ∷ filter p ys) (filter p ys))
  by true h later =
      let hit : Some y ≡ Some x = sym (ap (λ b. cond b (Some y) (find q ys)) h) ∙ e in
      let same : y ≡ x = cc in
      subst (λ b. 0 < length (cond b (y ∷ filter p ys) (filter p ys))) (sym (ap p same ∙ t)) (omega arith)
  by false h later = more (p y) (later (sym (ap (λ b. cond b (Some y) (find q ys)) h) ∙ e))

-- without the one of a number
pub count_fewer : (f : Holding → Bool) (a : ℕ) (hs : List Holding) (g : Holding) → AllPairs IsApart hs → find (λ (h : Holding). h.number == a) hs ≡ Some g
    → length (filter f hs) ≡ length (filter f (filter (λ (h : Holding). not (h.number == a)) hs)) + (if f g then 1 else 0)
count_fewer f a [] g apart e = absurd (let n : None ≡ Some g = e in none_some n) where
  none_some : None ≡ Some g → ⊥
  none_some n = cc
count_fewer f a (h ∷ hs) g apart e = by (h.number == a) refl (count_fewer f a hs g (pairs_tail IsApart h hs apart)) where
  by : (b : Bool) → (h.number == a) ≡ b
      → (find (λ (h : Holding). h.number == a) hs ≡ Some g → length (filter f hs) ≡ length (filter f (filter (λ (h : Holding). not (h.number == a)) hs)) + (if f g then 1 else 0))
      → length (filter f (h ∷ hs)) ≡ length (filter f (filter (λ (h : Holding). not (h.number == a)) (h ∷ hs))) + (if f g then 1 else 0)
  by true t later =
      let hit : Some h ≡ Some g = sym (ap (λ b. cond b (Some h) (find (λ (h : Holding). h.number == a) hs)) t) ∙ e in
      let is : h ≡ g = cc in
      here (f h) ∙ ap (λ k. length (filter f hs) + (if f k then 1 else 0)) is
      ∙ ap (λ (ks : List Holding). length (filter f ks) + (if f g then 1 else 0))
      (sym (ap (λ b. cond (not b) (h ∷ filter (λ (h : Holding). not (h.number == a)) hs) (filter (λ (h : Holding). not (h.number == a)) hs)) t ∙ rest_kept a h hs (eqb-true h.number a t) apart)) where
        here : (b : Bool) → length (cond b (h ∷ filter f hs) (filter f hs)) ≡ length (filter f hs) + (if b then 1 else 0)
        here true = omega arith
        here false = omega arith
  by false t later =
      let found : find (λ (h : Holding). h.number == a) hs ≡ Some g = sym (ap (λ b. cond b (Some h) (find (λ (h : Holding). h.number == a) hs)) t) ∙ e in
      there (f h) (length (filter f (filter (λ (h : Holding). not (h.number == a)) hs))) refl (later found)
      ∙ ap (λ b. length (filter f (cond (not b) (h ∷ filter (λ (h : Holding). not (h.number == a)) hs) (filter (λ (h : Holding). not (h.number == a)) hs))) + (if f g then 1 else 0)) (sym t) where
        there : (b : Bool) (n : ℕ) → length (filter f (filter (λ (h : Holding). not (h.number == a)) hs)) ≡ n → length (filter f hs) ≡ n + (if f g then 1 else 0)
            → length (cond b (h ∷ filter f hs) (filter f hs)) ≡ length (cond b (h ∷ filter f (filter (λ (h : Holding). not (h.number == a)) hs)) (filter f (filter (λ (h : Holding). not (h.number == a)) hs))) + (if f g then 1 else 0)
        there true n is rest = omega arith
        there false n is rest = omega arith
