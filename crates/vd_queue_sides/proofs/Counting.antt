-- Chains are counted by their heads.
use Rattle.std.proofs.Common.{◌≡◌, ℕ, zero, suc, ◌+◌, ◌%◌, ◌<◌, ◌≤◌, Bool, true, false, ◌==◌, ◌||◌, nat_lt, if◌then◌else◌, refl, ap, sym, subst, ◌∙◌, arith, List, [], ◌∷◌, ◌++◌, length, filter, true≢false}
use Rattle.std.specs.Prelude.{not}
use Rattle.std.proofs.lemmas.Bool.Decides.{nat_tests}
use Rattle.vd_model.specs.Acts.{AddedChain}
use Rattle.vd_model.specs.Queues.{is_other_chain}
use Rattle.vd_model.specs.Rings.{minus16}
use Rattle.vd_queue_sides.specs.Chains.{is_head, with_same_head}
use Rattle.vd_queue_sides.proofs.Daemons.{itself}

pub len_more : (xs : List AddedChain) (x : AddedChain) → length (xs ++ x ∷ []) ≡ length xs + 1
len_more [] x = refl
len_more (y ∷ ys) x = ap suc (len_more ys x) ∙ (let e : suc (length ys + 1) ≡ suc (length ys) + 1 = omega arith in e)

-- with one more of another head, and of this one
pub head_more : (xs : List AddedChain) (x : AddedChain) (d : ℕ) → (x.head == d) ≡ false → length (with_same_head d (xs ++ x ∷ [])) ≡ length (with_same_head d xs)
head_more [] x d e = ap (λ t. length (if t then x ∷ [] else [])) e
head_more (y ∷ ys) x d e = by (y.head == d) (head_more ys x d e) where
  by : (t : Bool) → length (with_same_head d (ys ++ x ∷ [])) ≡ length (with_same_head d ys) → length (if t then y ∷ with_same_head d (ys ++ x ∷ []) else with_same_head d (ys ++ x ∷ [])) ≡ length (if t then y ∷ with_same_head d ys else with_same_head d ys)
  by true rest = ap suc rest
  by false rest = rest

pub head_first : (xs : List AddedChain) (x : AddedChain) (d : ℕ) → is_head xs d ≡ false → length (with_same_head d (xs ++ x ∷ [])) ≤ 1
head_first [] x d e = by (x.head == d) where
  by : (t : Bool) → length (if t then x ∷ [] else []) ≤ 1
  by true = omega arith
  by false = omega arith
head_first (y ∷ ys) x d e = by (y.head == d) refl (head_first ys x d) where
  by : (t : Bool) → (y.head == d) ≡ t → (is_head ys d ≡ false → length (with_same_head d (ys ++ x ∷ [])) ≤ 1) → length (if (y.head == d) then y ∷ with_same_head d (ys ++ x ∷ []) else with_same_head d (ys ++ x ∷ [])) ≤ 1
  by true f rest = absurd (true≢false (sym (ap (λ t. t || is_head ys d) f) ∙ e))
  by false f rest = subst (λ t. length (if t then y ∷ with_same_head d (ys ++ x ∷ []) else with_same_head d (ys ++ x ∷ [])) ≤ 1) (sym f) (rest (sym (ap (λ t. t || is_head ys d) f) ∙ e))

pub some_head : (xs : List AddedChain) (d : ℕ) → is_head xs d ≡ true → 1 ≤ length (with_same_head d xs)
some_head [] d e = absurd (true≢false (sym e))
some_head (y ∷ ys) d e = by (y.head == d) refl (some_head ys d) where
  by : (t : Bool) → (y.head == d) ≡ t → (is_head ys d ≡ true → 1 ≤ length (with_same_head d ys)) → 1 ≤ length (if (y.head == d) then y ∷ with_same_head d ys else with_same_head d ys)
  by true f rest = subst (λ t. 1 ≤ length (if t then y ∷ with_same_head d ys else with_same_head d ys)) (sym f) (let e : 1 ≤ suc (length (with_same_head d ys)) = omega arith in e)
  by false f rest = subst (λ t. 1 ≤ length (if t then y ∷ with_same_head d ys else with_same_head d ys)) (sym f) (rest (sym (ap (λ t. t || is_head ys d) f) ∙ e))

-- those of a head, and the others
pub parted : (xs : List AddedChain) (d : ℕ) → length (filter (is_other_chain d) xs) + length (with_same_head d xs) ≡ length xs
parted [] d = refl
parted (y ∷ ys) d = by (y.head == d) (parted ys d) where
  by : (t : Bool) → length (filter (is_other_chain d) ys) + length (with_same_head d ys) ≡ length ys
      → length (if not t then y ∷ filter (is_other_chain d) ys else filter (is_other_chain d) ys) + length (if t then y ∷ with_same_head d ys else with_same_head d ys) ≡ suc (length ys)
  by true rest = let e : length (filter (is_other_chain d) ys) + suc (length (with_same_head d ys)) ≡ suc (length ys) = omega arith in e
  by false rest = let e : suc (length (filter (is_other_chain d) ys)) + length (with_same_head d ys) ≡ suc (length ys) = omega arith in e

pub fewer : (xs : List AddedChain) (h d : ℕ) → length (with_same_head d (filter (is_other_chain h) xs)) ≤ length (with_same_head d xs)
fewer [] h d = omega arith
fewer (y ∷ ys) h d = by (y.head == h) (y.head == d) refl (fewer ys h d) where
  by : (t u : Bool) → (y.head == d) ≡ u → length (with_same_head d (filter (is_other_chain h) ys)) ≤ length (with_same_head d ys)
      → length (with_same_head d (if not t then y ∷ filter (is_other_chain h) ys else filter (is_other_chain h) ys)) ≤ length (if y.head == d then y ∷ with_same_head d ys else with_same_head d ys)
  by true true f rest = subst (λ t. length (with_same_head d (filter (is_other_chain h) ys)) ≤ length (if t then y ∷ with_same_head d ys else with_same_head d ys)) (sym f) (let e : length (with_same_head d (filter (is_other_chain h) ys)) ≤ suc (length (with_same_head d ys)) = omega arith in e)
  by true false f rest = subst (λ t. length (with_same_head d (filter (is_other_chain h) ys)) ≤ length (if t then y ∷ with_same_head d ys else with_same_head d ys)) (sym f) rest
  by false true f rest = subst (λ t. length (if t then y ∷ with_same_head d (filter (is_other_chain h) ys) else with_same_head d (filter (is_other_chain h) ys)) ≤ length (if t then y ∷ with_same_head d ys else with_same_head d ys)) (sym f)
      (let e : suc (length (with_same_head d (filter (is_other_chain h) ys))) ≤ suc (length (with_same_head d ys)) = omega arith in e)
  by false false f rest = subst (λ t. length (if t then y ∷ with_same_head d (filter (is_other_chain h) ys) else with_same_head d (filter (is_other_chain h) ys)) ≤ length (if t then y ∷ with_same_head d ys else with_same_head d ys)) (sym f) rest

-- ---- distinct heads below n are n at most

abbrev under : ℕ → List AddedChain → List AddedChain
under n xs = filter (λ chain. nat_lt chain.head n) xs

under_next : (n : ℕ) (xs : List AddedChain) → length (under (suc n) xs) ≡ length (under n xs) + length (with_same_head n xs)
under_next n [] = refl
under_next n (y ∷ ys) = by (nat_lt y.head (suc n)) refl (nat_lt y.head n) refl (y.head == n) refl (under_next n ys) where
  by : (t : Bool) → nat_lt y.head (suc n) ≡ t → (u : Bool) → nat_lt y.head n ≡ u → (v : Bool) → (y.head == n) ≡ v → length (under (suc n) ys) ≡ length (under n ys) + length (with_same_head n ys)
      → length (if t then y ∷ under (suc n) ys else under (suc n) ys) ≡ length (if u then y ∷ under n ys else under n ys) + length (if v then y ∷ with_same_head n ys else with_same_head n ys)
  by true f true g true h rest = absurd (clash f g h) where
    clash : nat_lt y.head (suc n) ≡ true → nat_lt y.head n ≡ true → (y.head == n) ≡ true → ⊥
    clash f g h = grind (arith, nat_tests)
  by true f true g false h rest = let e : suc (length (under (suc n) ys)) ≡ suc (length (under n ys)) + length (with_same_head n ys) = omega arith in e
  by true f false g true h rest = let e : suc (length (under (suc n) ys)) ≡ length (under n ys) + suc (length (with_same_head n ys)) = omega arith in e
  by true f false g false h rest = absurd (clash f g h) where
    clash : nat_lt y.head (suc n) ≡ true → nat_lt y.head n ≡ false → (y.head == n) ≡ false → ⊥
    clash f g h = grind (arith, nat_tests)
  by false f true g v h rest = absurd (clash f g) where
    clash : nat_lt y.head (suc n) ≡ false → nat_lt y.head n ≡ true → ⊥
    clash f g = grind (arith, nat_tests)
  by false f false g true h rest = absurd (clash f h) where
    clash : nat_lt y.head (suc n) ≡ false → (y.head == n) ≡ true → ⊥
    clash f h = grind (arith, nat_tests)
  by false f false g false h rest = rest

under_few : (n : ℕ) (xs : List AddedChain) → ((d : ℕ) → length (with_same_head d xs) ≤ 1) → length (under n xs) ≤ n
under_few zero xs lone = none xs where
  none : (xs : List AddedChain) → length (under 0 xs) ≤ 0
  none [] = omega arith
  none (y ∷ ys) = subst (λ t. length (if t then y ∷ under 0 ys else under 0 ys) ≤ 0) (sym (let e : nat_lt y.head 0 ≡ false = grind (arith, nat_tests) in e)) (none ys)
under_few (suc n) xs lone =
    let rest = under_few n xs lone in
    let one = lone n in
    let step = under_next n xs in
    omega arith

under_all : (n : ℕ) (xs : List AddedChain) → ((d : ℕ) → is_head xs d ≡ true → d < n) → length (under n xs) ≡ length xs
under_all n [] inside = refl
under_all n (y ∷ ys) inside =
    let first = inside y.head (ap (λ t. t || is_head ys y.head) (itself y.head)) in
    let test : nat_lt y.head n ≡ true = grind (arith, nat_tests, first) in
    ap (λ t. length (if t then y ∷ under n ys else under n ys)) test
    ∙ ap suc (under_all n ys (λ d e. inside d (later (y.head == d) (is_head ys d) e))) where
      later : (a b : Bool) → b ≡ true → (a || b) ≡ true
      later true b e = refl
      later false b e = e

pub at_most : (n : ℕ) (xs : List AddedChain) → ((d : ℕ) → length (with_same_head d xs) ≤ 1) → ((d : ℕ) → is_head xs d ≡ true → d < n) → length xs ≤ n
at_most n xs lone inside =
    let few = under_few n xs lone in
    let all = under_all n xs inside in
    omega arith

-- ---- counts, and indices of sixteen bits

pub between : (r p l : ℕ) → p ≡ r + l → l < 65536 → minus16 (p % 65536) (r % 65536) ≡ l
between r p l e few = omega arith

pub same_index : (r a b l m : ℕ) → a ≡ r + l → b ≡ r + m → l < 65536 → m < 65536 → a % 65536 ≡ b % 65536 → a ≡ b
same_index r a b l m e f few small same = omega arith
