-- Numbers out of range.
use Rattle.std.proofs.Common.{◌≡◌, ℕ, suc, ◌+◌, ◌-◌, ◌*◌, ◌<◌, ◌≤◌, Bool, true, false, refl, ap, ◌∙◌, sym, arith, cond, nat_le, ◌&&◌, None, Some, List, [], ◌∷◌, length, drop, take, get_or, length-drop, subst, map}
use Rattle.std.proofs.Math.Seq.{drop-cons}
use Rattle.std.proofs.lemmas.Bool.Decides.{nat_tests}
use Rattle.std.proofs.Math.Seq.{take-length}
use Rattle.std.specs.Option.{option_and_then}
use Rattle.vd_options.specs.declared.words.Chosen.{Chosen}
use Rattle.vd_options.specs.Words.{decimal_from, between, with_pair, with_pairs, path_in}

-- digits only make a number greater
pub digits_past : (n hi : ℕ) (bytes : List ℕ) → hi < n → between 0 hi (decimal_from n bytes) ≡ None
digits_past n hi [] past = let large : (nat_le 0 n && nat_le n hi) ≡ false = grind (arith, nat_tests) in ap (λ b. cond b (Some n) None) large
digits_past n hi (b ∷ bytes) past = by (digits_past (10 * n + (b - 48)) hi bytes (omega arith)) (nat_le 48 b && nat_le b 57) where
  by : between 0 hi (decimal_from (10 * n + (b - 48)) bytes) ≡ None → (t : Bool) → between 0 hi (cond t (decimal_from (10 * n + (b - 48)) bytes) None) ≡ None
  by later true = later
  by later false = refl

pub digits_end : (n hi : ℕ) → n ≤ hi → between 0 hi (decimal_from n []) ≡ Some n
digits_end n hi fits = let small : (nat_le 0 n && nat_le n hi) ≡ true = grind (arith, nat_tests) in ap (λ b. cond b (Some n) None) small

-- the next digit
pub digits_next : (n hi i : ℕ) (text : List ℕ) → i < length text → (nat_le 48 (get_or text i 0) && nat_le (get_or text i 0) 57) ≡ true
    → between 0 hi (decimal_from n (drop i text)) ≡ between 0 hi (decimal_from (10 * n + (get_or text i 0 - 48)) (drop (suc i) text))
digits_next n hi i text below digit =
    ap (λ l. between 0 hi (decimal_from n l)) (drop-cons text i 0 below) ∙ ap (λ t. between 0 hi (cond t (decimal_from (10 * n + (get_or text i 0 - 48)) (drop (suc i) text)) None)) digit

pub digits_bad : (n hi i : ℕ) (text : List ℕ) → i < length text → (nat_le 48 (get_or text i 0) && nat_le (get_or text i 0) 57) ≡ false
    → between 0 hi (decimal_from n (drop i text)) ≡ None
digits_bad n hi i text below other =
    ap (λ l. between 0 hi (decimal_from n l)) (drop-cons text i 0 below) ∙ ap (λ t. between 0 hi (cond t (decimal_from (10 * n + (get_or text i 0 - 48)) (drop (suc i) text)) None)) other

-- one pair more
pub pairs_next : {X : Type 0} (bytes_of : X → List ℕ) (chosen more : Chosen) (rest : List X) (flag value : X) → 2 ≤ length rest → flag ≡ get_or rest 0 flag → value ≡ get_or rest 1 value
    → with_pair chosen (bytes_of flag) (bytes_of value) ≡ Some more → with_pairs chosen (map bytes_of rest) ≡ with_pairs more (map bytes_of (drop 2 rest))
pairs_next bytes_of chosen more [] flag value two f v e = absurd (omega arith)
pairs_next bytes_of chosen more (a ∷ []) flag value two f v e = absurd (omega arith)
pairs_next bytes_of chosen more (a ∷ b ∷ rest) flag value two f v e =
    ap (option_and_then (λ m. with_pairs m (map bytes_of rest))) (ap (λ w. with_pair chosen (bytes_of w) (bytes_of b)) (sym f) ∙ ap (λ w. with_pair chosen (bytes_of flag) (bytes_of w)) (sym v) ∙ e)

-- a word without its pair
pub pairs_odd : {X : Type 0} (bytes_of : X → List ℕ) (chosen : Chosen) (rest : List X) → 0 < length rest → length rest < 2 → with_pairs chosen (map bytes_of rest) ≡ None
pairs_odd bytes_of chosen [] some few = absurd (omega arith)
pairs_odd bytes_of chosen (a ∷ []) some few = refl
pairs_odd bytes_of chosen (a ∷ b ∷ rest) some few = absurd (omega arith)

-- no path
pub path_nowhere : {X : Type 0} (bytes_of : X → List ℕ) (rest : List X) → length rest < 2 → path_in (map bytes_of rest) ≡ None
path_nowhere bytes_of [] few = refl
path_nowhere bytes_of (a ∷ []) few = refl
path_nowhere bytes_of (a ∷ b ∷ rest) few = absurd (omega arith)

-- all that follows
pub rest_of : {X : Type 0} (n : ℕ) (xs : List X) → take (length xs - n) (drop n xs) ≡ drop n xs
rest_of n xs = subst (λ k. take k (drop n xs) ≡ drop n xs) (length-drop n xs) (take-length (drop n xs))
