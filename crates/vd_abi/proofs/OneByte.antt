-- A byte that is written is a field of one byte.
use Rattle.std.proofs.Common.{◌≡◌, ℕ, suc, ◌<◌, ◌%◌, List, ◌∷◌, ◌++◌, length, take, drop, set, sym, ap, ◌∙◌, add-one}
use Rattle.std.proofs.Math.Nat.{mod-eq_of_lt}
use Rattle.std.proofs.lemmas.List.{set_split, drop-drop}
use Rattle.vd_num.specs.Field.{with_field}

pub set-is_field : (xs : List ℕ) (i v : ℕ) → i < length xs → v < 256 → set xs i v ≡ with_field 1 xs i v
set-is_field xs i v inside small =
    let rest : drop (suc i) xs ≡ drop 1 (drop i xs) = ap (λ (n : ℕ). drop n xs) (sym (add-one i)) ∙ sym (drop-drop 1 i xs) in
    set_split xs i v inside
    ∙ ap (λ (w : ℕ). take i xs ++ w ∷ drop (suc i) xs) (sym (mod-eq_of_lt small))
    ∙ ap (λ (rest : List ℕ). take i xs ++ (v % 256) ∷ rest) rest
