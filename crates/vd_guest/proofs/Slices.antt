-- A slice has the bytes of its places, one after another.
use Rattle.std.proofs.Common.{◌≡◌, ℕ, zero, suc, ◌+◌, ◌<◌, ◌≤◌, refl, ap, ◌∙◌, sym, arith, List, [], ◌∷◌, length, take, drop, get_or}
use Rattle.std.proofs.lemmas.List.{get_or-take, get_or-drop, length-take-le, length-drop}
use Rattle.std.specs.List.{slice_index}
use Rattle.vd_model.specs.Puts.{each_from}

each_from_is : (f : ℕ → ℕ) (from n : ℕ) (xs : List ℕ) → length xs ≡ n → ((i : ℕ) → i < n → slice_index xs i ≡ f (from + i)) → xs ≡ each_from f from n
each_from_is f from zero [] size each = refl
each_from_is f from zero (x ∷ xs) size each = absurd (omega arith)
each_from_is f from (suc n) [] size each = absurd (omega arith)
each_from_is f from (suc n) (x ∷ xs) size each =
    let here : from + 0 ≡ from = omega arith in
    ap (λ y. y ∷ xs) (each 0 (omega arith) ∙ ap f here)
    ∙ ap (λ ys. f from ∷ ys) (each_from_is f (from + 1) n xs (omega arith)
    (λ i below. let there : from + suc i ≡ from + 1 + i = omega arith in each (suc i) (omega arith) ∙ ap f there))

-- a slice, by what each of its places has
pub slice_each : (f : ℕ → ℕ) (bytes : List ℕ) (from n : ℕ) → from + n ≤ length bytes → ((o : ℕ) → slice_index bytes o ≡ f o) → take n (drop from bytes) ≡ each_from f from n
slice_each f bytes from n within each = each_from_is f from n (take n (drop from bytes))
    (let rest = length-drop from bytes in length-take-le n (drop from bytes) (omega arith))
    (λ i below. get_or-take n (drop from bytes) i 0 below ∙ get_or-drop from bytes i 0 ∙ each (from + i))
