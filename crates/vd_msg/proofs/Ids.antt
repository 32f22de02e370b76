-- Tests, counts and searches in lists.
use Rattle.std.proofs.Common.{◌≡◌, ℕ, suc, ◌+◌, ◌<◌, ◌≤◌, Bool, true, false, ◌||◌, ◌&&◌, Some, None, refl, ap, subst, ◌∙◌, sym, arith, cond, not, List, [], ◌∷◌, ◌++◌, length, nat_lt, find, filter}
use Rattle.std.specs.List.{list_any, list_all}
use Rattle.std.specs.Option.{is_some}
use Rattle.std.proofs.lemmas.Bool.Decides.{nat_tests}
use Rattle.vd_msg.specs.Lists.{without_first, count_of}

-- 1 for a test that holds
abbrev pub one_if : Bool → ℕ
one_if b = cond b 1 0

-- an element passes exactly where one is counted
pub any_counted : {X : Type 0} (p : X → Bool) (xs : List X) → list_any p xs ≡ nat_lt 0 (count_of p xs)
any_counted p [] = refl
any_counted {X} p (x ∷ xs) = by (p x) (any_counted p xs) where
  by : (b : Bool) → list_any p xs ≡ nat_lt 0 (count_of p xs) → (b || list_any p xs) ≡ nat_lt 0 (cond b 1 0 + count_of p xs)
  by true e = grind (arith, nat_tests)
  by false e = grind (arith, nat_tests, e)

pub find_is_any : {X : Type 0} (p : X → Bool) (xs : List X) → is_some (find p xs) ≡ list_any p xs
find_is_any p [] = refl
find_is_any {X} p (x ∷ xs) = by (p x) (find_is_any p xs) where
  by : (b : Bool) → is_some (find p xs) ≡ list_any p xs → is_some (cond b (Some x) (find p xs)) ≡ (b || list_any p xs)
  by true e = refl
  by false e = e

pub find_none : {X : Type 0} (p : X → Bool) (xs : List X) → list_any p xs ≡ false → find p xs ≡ None
find_none p [] e = refl
find_none {X} p (x ∷ xs) e = by (p x) (find_none p xs) e where
  by : (b : Bool) → (list_any p xs ≡ false → find p xs ≡ None) → (b || list_any p xs) ≡ false → cond b (Some x) (find p xs) ≡ None
  by true rest f = cc
  by false rest f = rest f

-- a search in two lists, one after the other
pub find_first : {X : Type 0} (p : X → Bool) (xs ys : List X) (x : X) → find p xs ≡ Some x → find p (xs ++ ys) ≡ Some x
find_first p [] ys x e = cc
find_first {X} p (y ∷ xs) ys x e = by (p y) (find_first p xs ys x) e where
  by : (b : Bool) → (find p xs ≡ Some x → find p (xs ++ ys) ≡ Some x) → cond b (Some y) (find p xs) ≡ Some x → cond b (Some y) (find p (xs ++ ys)) ≡ Some x
  by true rest f = f
  by false rest f = rest f

pub find_second : {X : Type 0} (p : X → Bool) (xs ys : List X) → list_any p xs ≡ false → find p (xs ++ ys) ≡ find p ys
find_second p [] ys e = refl
find_second {X} p (x ∷ xs) ys e = by (p x) (find_second p xs ys) e where
  by : (b : Bool) → (list_any p xs ≡ false → find p (xs ++ ys) ≡ find p ys) → (b || list_any p xs) ≡ false → cond b (Some x) (find p (xs ++ ys)) ≡ find p ys
  by true rest f = cc
  by false rest f = rest f

-- what is found passes
pub found_passes : {X : Type 0} (p : X → Bool) (xs : List X) (x : X) → find p xs ≡ Some x → p x ≡ true
found_passes p [] x e = cc
found_passes {X} p (y ∷ xs) x e = by (p y) refl (found_passes p xs x) e where
  by : (b : Bool) → p y ≡ b → (find p xs ≡ Some x → p x ≡ true) → cond b (Some y) (find p xs) ≡ Some x → p x ≡ true
  by true is rest f = let same : y ≡ x = cc in subst (λ z. p z ≡ true) same is
  by false is rest f = rest f

-- counts and lengths without what was found
pub count-without : {X : Type 0} (p q : X → Bool) (xs : List X) (x : X) → find p xs ≡ Some x → count_of q xs ≡ cond (q x) 1 0 + count_of q (without_first p xs)
count-without p q [] x e = cc
count-without {X} p q (y ∷ xs) x e = by (p y) (count-without p q xs x) e where
  by : (b : Bool) → (find p xs ≡ Some x → count_of q xs ≡ cond (q x) 1 0 + count_of q (without_first p xs)) → cond b (Some y) (find p xs) ≡ Some x
      → cond (q y) 1 0 + count_of q xs ≡ cond (q x) 1 0 + count_of q (cond b xs (y ∷ without_first p xs))
  by true rest f = let same : y ≡ x = cc in ap (λ z. cond (q z) 1 0 + count_of q xs) same
  by false rest f = let r = rest f in omega arith

pub length-without : {X : Type 0} (p : X → Bool) (xs : List X) (x : X) → find p xs ≡ Some x → length xs ≡ 1 + length (without_first p xs)
length-without p [] x e = cc
length-without {X} p (y ∷ xs) x e = by (p y) (length-without p xs x) e where
  by : (b : Bool) → (find p xs ≡ Some x → length xs ≡ 1 + length (without_first p xs)) → cond b (Some y) (find p xs) ≡ Some x → suc (length xs) ≡ 1 + length (cond b xs (y ∷ without_first p xs))
  by true rest f = omega arith
  by false rest f = let r = rest f in omega arith

-- a filter drops nothing where no element passes, and one element where one does
pub filter_all : {X : Type 0} (p : X → Bool) (xs : List X) → list_any p xs ≡ false → filter (λ x. not (p x)) xs ≡ xs
filter_all p [] e = refl
filter_all {X} p (x ∷ xs) e = by (p x) (filter_all p xs) e where
  by : (b : Bool) → (list_any p xs ≡ false → filter (λ x. not (p x)) xs ≡ xs) → (b || list_any p xs) ≡ false → cond (not b) (x ∷ filter (λ x. not (p x)) xs) (filter (λ x. not (p x)) xs) ≡ x ∷ xs
  by true rest f = cc
  by false rest f = ap (λ l. x ∷ l) (rest f)

pub filter_one : {X : Type 0} (p : X → Bool) (xs : List X) → count_of p xs ≤ 1 → filter (λ x. not (p x)) xs ≡ without_first p xs
filter_one p [] few = refl
filter_one {X} p (x ∷ xs) few = by (p x) (filter_one p xs) few where
  by : (b : Bool) → (count_of p xs ≤ 1 → filter (λ x. not (p x)) xs ≡ without_first p xs) → cond b 1 0 + count_of p xs ≤ 1
      → cond (not b) (x ∷ filter (λ x. not (p x)) xs) (filter (λ x. not (p x)) xs) ≡ cond b xs (x ∷ without_first p xs)
  by true rest f = filter_all p xs (any_counted p xs ∙ grind (arith, nat_tests))
  by false rest f = ap (λ l. x ∷ l) (rest (omega arith))

pub count_of-append : {X : Type 0} (p : X → Bool) (xs ys : List X) → count_of p (xs ++ ys) ≡ count_of p xs + count_of p ys
count_of-append p [] ys = omega arith
count_of-append p (x ∷ xs) ys = let rest = count_of-append p xs ys in omega arith

-- what is found in two lists
pub find-append : {X : Type 0} (p : X → Bool) (xs ys : List X) → find p (xs ++ ys) ≡ cond (list_any p xs) (find p xs) (find p ys)
find-append p [] ys = refl
find-append {X} p (x ∷ xs) ys = by (p x) (find-append p xs ys) where
  by : (b : Bool) → find p (xs ++ ys) ≡ cond (list_any p xs) (find p xs) (find p ys)
      → cond b (Some x) (find p (xs ++ ys)) ≡ cond (b || list_any p xs) (cond b (Some x) (find p xs)) (find p ys)
  by true rest = refl
  by false rest = rest

-- another search doesn't see what was taken out
pub find-without : {X : Type 0} (p q : X → Bool) (xs : List X) → ((x : X) → p x ≡ true → q x ≡ false) → find q (without_first p xs) ≡ find q xs
find-without p q [] apart = refl
find-without {X} p q (x ∷ xs) apart = by (p x) refl (find-without p q xs apart) where
  by : (b : Bool) → p x ≡ b → find q (without_first p xs) ≡ find q xs → find q (cond b xs (x ∷ without_first p xs)) ≡ cond (q x) (Some x) (find q xs)
  by true is rest = ap (λ b. cond b (Some x) (find q xs)) (sym (apart x is))
  by false is rest = ap (λ o. cond (q x) (Some x) o) rest

pub all_found : {X : Type 0} (p q : X → Bool) (xs : List X) (x : X) → list_all p xs ≡ true → find q xs ≡ Some x → p x ≡ true
all_found p q [] x all e = cc
all_found {X} p q (y ∷ xs) x all e = by (p y) refl (q y) (all_found p q xs x) all e where
  by : (a : Bool) → p y ≡ a → (b : Bool) → (list_all p xs ≡ true → find q xs ≡ Some x → p x ≡ true) → (a && list_all p xs) ≡ true → cond b (Some y) (find q xs) ≡ Some x → p x ≡ true
  by false is b rest f g = cc
  by true is true rest f g = let same : y ≡ x = cc in subst (λ z. p z ≡ true) same is
  by true is false rest f g = rest f g

pub all_without : {X : Type 0} (p q : X → Bool) (xs : List X) → list_all p xs ≡ true → list_all p (without_first q xs) ≡ true
all_without p q [] all = refl
all_without {X} p q (y ∷ xs) all = by (p y) refl (q y) (all_without p q xs) all where
  by : (a : Bool) → p y ≡ a → (b : Bool) → (list_all p xs ≡ true → list_all p (without_first q xs) ≡ true) → (a && list_all p xs) ≡ true → list_all p (cond b xs (y ∷ without_first q xs)) ≡ true
  by false is b rest f = cc
  by true is true rest f = f
  by true is false rest f = ap (λ a. a && list_all p (without_first q xs)) is ∙ rest f

-- a count above 0 and one of 0 as tests
pub some_counted : {X : Type 0} (p : X → Bool) (xs : List X) → 0 < count_of p xs → list_any p xs ≡ true
some_counted p xs some = any_counted p xs ∙ grind (arith, nat_tests)

pub none_counted : {X : Type 0} (p : X → Bool) (xs : List X) → count_of p xs ≡ 0 → list_any p xs ≡ false
none_counted p xs none = any_counted p xs ∙ grind (arith, nat_tests)

pub counted_some : {X : Type 0} (p : X → Bool) (xs : List X) → list_any p xs ≡ true → 0 < count_of p xs
counted_some p xs some = let t : nat_lt 0 (count_of p xs) ≡ true = sym (any_counted p xs) ∙ some in grind (arith, nat_tests)
