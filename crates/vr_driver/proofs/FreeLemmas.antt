-- Lists of free descriptors, a descriptor at a time.
use Rattle.std.proofs.Common.{◌≡◌, ℕ, zero, suc, ◌+◌, ◌-◌, ◌<◌, ◌≤◌, Bool, true, false, not, List, [], ◌∷◌, ◌++◌, length, take, drop, get_or, Option, Some, None, refl, sym, ap, ◌∙◌, arith, append_assoc}
use Rattle.std.proofs.Math.ListN.{set}
use Rattle.std.proofs.Math.Seq.{drop-cons, take-suc-set}
use Rattle.std.specs.Prelude.{is_some}
use Rattle.std.proofs.lemmas.List.{get_or-take, length-take-le}
use Rattle.std.proofs.lemmas.Grind.{common_steps}
use Rattle.vr_driver.specs.Side.{free_from, with_owner}

-- the rest from k on
drop-at : {X : Type 0} (xs : List X) (k : ℕ) (d x : X) → k < length xs → get_or xs k d ≡ x → drop k xs ≡ x ∷ drop (k + 1) xs
drop-at xs k d x h e =
    let on : suc k ≡ k + 1 = omega arith in
    drop-cons xs k d h ∙ ap (λ y. y ∷ drop (suc k) xs) e ∙ ap (λ (n : ℕ). x ∷ drop n xs) on

-- a free descriptor
pub free-none : (owners : List (Option ℕ)) (k : ℕ) (d : Option ℕ) → k < length owners → get_or owners k d ≡ None → free_from k (drop k owners) ≡ k ∷ free_from (k + 1) (drop (k + 1) owners)
free-none owners k d h e = ap (free_from k) (drop-at owners k d None h e)

-- one that is held
pub free-some : (owners : List (Option ℕ)) (k : ℕ) (d : Option ℕ) (head : ℕ) → k < length owners → get_or owners k d ≡ Some head → free_from k (drop k owners) ≡ free_from (k + 1) (drop (k + 1) owners)
free-some owners k d head h e = ap (free_from k) (drop-at owners k d (Some head) h e)

none_of : (o : Option ℕ) → is_some o ≡ false → o ≡ None
none_of None h = refl
none_of (Some x) h = cc

some_of : (o : Option ℕ) → is_some o ≡ true → (x : ℕ) × (o ≡ Some x)
some_of None h = cc
some_of (Some x) h = (x, refl)

-- the same by the test that the code makes
pub free-if_none : (owners : List (Option ℕ)) (k : ℕ) (r : Bool) → k < length owners → is_some (get_or owners k None) ≡ not r → r ≡ true → free_from k (drop k owners) ≡ k ∷ free_from (k + 1) (drop (k + 1) owners)
free-if_none owners k r h e t = free-none owners k None h (none_of (get_or owners k None) (e ∙ ap not t))

pub free-if_some : (owners : List (Option ℕ)) (k : ℕ) (r : Bool) → k < length owners → is_some (get_or owners k None) ≡ not r → r ≡ false → free_from k (drop k owners) ≡ free_from (k + 1) (drop (k + 1) owners)
free-if_some owners k r h e t = let some = some_of (get_or owners k None) (e ∙ ap not t) in free-some owners k None some.0 h some.1

-- no descriptor is left
pub free-end : (owners : List (Option ℕ)) (k : ℕ) → length owners ≤ k → free_from k (drop k owners) ≡ []
free-end owners k h = let none : drop k owners ≡ [] = grind (arith, common_steps) in ap (free_from k) none

-- one more is picked
pub picked-more : (into free all : List ℕ) (n k : ℕ) → n < length into → take n into ++ take (length into - n) (k ∷ free) ≡ all → take (n + 1) (set into n k) ++ take (length into - (n + 1)) free ≡ all
picked-more into free all n k h e =
    let on : n + 1 ≡ suc n = omega arith in
    let left : length into - n ≡ suc (length into - (n + 1)) = omega arith in
    let front : take (n + 1) (set into n k) ≡ take n into ++ (k ∷ []) = ap (λ (j : ℕ). take j (set into n k)) on ∙ take-suc-set into n k h in
    let rest : take (length into - n) (k ∷ free) ≡ k ∷ take (length into - (n + 1)) free = ap (λ (j : ℕ). take j (k ∷ free)) left in
    let assoc : (take n into ++ (k ∷ [])) ++ take (length into - (n + 1)) free ≡ take n into ++ (k ∷ take (length into - (n + 1)) free) = rw append_assoc refl in
    ap (λ (l : List ℕ). l ++ take (length into - (n + 1)) free) front ∙ assoc ∙ ap (λ (l : List ℕ). take n into ++ l) (sym rest) ∙ e

-- all are picked
pub picked-all : (into all : List ℕ) (n : ℕ) → n ≤ length into → length into ≤ length all → take n into ++ take (length into - n) [] ≡ take (length into) all → into ≡ take (length into) all
picked-all into all n l h e =
    let same : length (take n into ++ take (length into - n) []) ≡ length (take (length into) all) = ap length e in
    let whole : n ≡ length into = grind (arith, common_steps) in
    grind (arith, common_steps)

-- one more is claimed
pub with_owner-more : (owners : List (Option ℕ)) (indices : List ℕ) (head k : ℕ) → k < length indices → with_owner owners (drop k indices) head ≡ with_owner (set owners (get_or indices k 0) (Some head)) (drop (k + 1) indices) head
with_owner-more owners indices head k h = ap (λ (l : List ℕ). with_owner owners l head) (drop-at indices k 0 (get_or indices k 0) h refl)

pub with_owner-end : (owners : List (Option ℕ)) (indices : List ℕ) (head k : ℕ) → length indices ≤ k → with_owner owners (drop k indices) head ≡ owners
with_owner-end owners indices head k h = let none : drop k indices ≡ [] = grind (arith, common_steps) in ap (λ (l : List ℕ). with_owner owners l head) none

-- nothing more is wanted
pub picked-full : (len n : ℕ) (xs ys : List ℕ) → len ≤ n → take (len - n) xs ≡ take (len - n) ys
picked-full len n xs ys h = let none : len - n ≡ 0 = omega arith in ap (λ (j : ℕ). take j xs) none ∙ sym (ap (λ (j : ℕ). take j ys) none)

-- the same of what the variables hold now
pub picked-now : (n n' len : ℕ) (into into' rest all : List ℕ) → n' ≡ n → into' ≡ into → length into' ≡ len → take n into ++ take (len - n) rest ≡ take len all → take n' into' ++ take (length into' - n') rest ≡ take (length into') all
picked-now n n' len into into' rest all en ei el h = rw (el, en, ei) h

-- each free descriptor is one of the ring
pub free-below : (owners : List (Option ℕ)) (k i d : ℕ) → i < length (free_from k owners) → get_or (free_from k owners) i d < k + length owners
free-below [] k i d h = absurd (omega arith)
free-below (None ∷ owners) k zero d h = omega arith
free-below (None ∷ owners) k (suc i) d h = let rest = free-below owners (k + 1) i d (omega arith) in omega (arith, rest)
free-below (Some head ∷ owners) k i d h = let rest = free-below owners (k + 1) i d h in omega (arith, rest)

-- and so is each that is picked
pub picked-below : (owners : List (Option ℕ)) (picked : List ℕ) (n : ℕ) → n ≤ length (free_from 0 owners) → picked ≡ take n (free_from 0 owners) → (k d : ℕ) → k < length picked → get_or picked k d < length owners
picked-below owners picked n h e k d l =
    let len : length picked ≡ n = ap length e ∙ length-take-le n (free_from 0 owners) h in
    let place : get_or picked k d ≡ get_or (free_from 0 owners) k d = ap (λ (xs : List ℕ). get_or xs k d) e ∙ get_or-take n (free_from 0 owners) k d (omega arith) in
    let below = free-below owners 0 k d (omega arith) in
    omega (arith, place, below)
