-- Where a text ends.
use Rattle.std.proofs.Common.{◌≡◌, ℕ, ◌<◌, ◌≤◌, Bool, true, false, cond, nat_lt, ◌==◌, ◌&&◌, List, [], ◌∷◌, length, take, refl, sym, ap, subst, ◌∙◌, Some, None, arith}
use Rattle.std.specs.Option.{unwrap_or}
use Rattle.std.specs.List.{position, position_or_len, prefix_len, take_while, list_all}
use Rattle.std.specs.Prelude.{not, slice_range}
use Rattle.std.proofs.lemmas.List.Sums.{prefix_len-le-length, take_while-cons}
use Rattle.std.proofs.lemmas.List.{length-take}
use Rattle.vd_abi.specs.Layout.{IsText, before_zero}
use Rattle.std.proofs.lemmas.Bool.Decides.{nat_tests}

-- the least of the two, where the first is at most the second
chosen : (m n : ℕ) → m ≤ n → unwrap_or (cond (nat_lt m n) (Some m) None) n ≡ m
chosen m n le = grind (arith, nat_tests)

pub position-within : (p : ℕ → Bool) (xs : List ℕ) → position_or_len p xs ≤ length xs
position-within p xs = prefix_len-le-length (λ x. not (p x)) xs

-- a place that was found, or the length
pub position-or_length : (p : ℕ → Bool) (xs : List ℕ) → unwrap_or (position p xs) (length xs) ≡ position_or_len p xs
position-or_length p xs = chosen (position_or_len p xs) (length xs) (position-within p xs)

kept : (p : ℕ → Bool) (x : ℕ) (rest : List ℕ) → list_all p rest ≡ true → (b : Bool) → p x ≡ b → list_all p (cond b (x ∷ rest) []) ≡ true
kept p x rest all true is = ap (λ (c : Bool). c && list_all p rest) is ∙ all
kept p x rest all false is = refl

-- each element of the front that passes does
front-passes : (p : ℕ → Bool) (xs : List ℕ) → list_all p (take_while p xs) ≡ true
front-passes p [] = refl
front-passes p (x ∷ xs) =
    ap (list_all p) (take_while-cons p x xs) ∙ kept p x (take_while p xs) (front-passes p xs) (p x) refl

-- what is read as a name is a text in 256 bytes
pub name-is_text : (name xs : List ℕ) → name ≡ before_zero (slice_range xs 0 255) → IsText 256 name
name-is_text name xs is =
    let room = take 255 xs in
    let front = prefix_len (λ (b : ℕ). not (b == 0)) room in
    let short : length (before_zero room) < 256 = omega (arith, length-take front room, length-take 255 xs) in
    let text : IsText 256 (before_zero room) = record { ends = short; no_zero = front-passes (λ b. not (b == 0)) room } in
    subst (IsText 256) (sym is) text
