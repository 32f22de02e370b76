-- Bytes one after another.
use Rattle.std.proofs.Common.{◌≡◌, ℕ, zero, suc, ◌+◌, ◌<◌, refl, ap, ◌∙◌, arith, List, [], ◌∷◌, length}
use Rattle.std.specs.List.{slice_index}
use Rattle.vd_model.specs.Puts.{each_from}

pub each_from_is : (f : ℕ → ℕ) (from n : ℕ) (xs : List ℕ) → length xs ≡ n → ((i : ℕ) → i < n → slice_index xs i ≡ f (from + i)) → xs ≡ each_from f from n
each_from_is f from zero [] size each = refl
each_from_is f from zero (x ∷ xs) size each = absurd (omega arith)
each_from_is f from (suc n) [] size each = absurd (omega arith)
each_from_is f from (suc n) (x ∷ xs) size each =
    let here : from + 0 ≡ from = omega arith in
    ap (λ y. y ∷ xs) (each 0 (omega arith) ∙ ap f here)
    ∙ ap (λ ys. f from ∷ ys) (each_from_is f (from + 1) n xs (omega arith)
    (λ i below. let there : from + suc i ≡ from + 1 + i = omega arith in each (suc i) (omega arith) ∙ ap f there))
