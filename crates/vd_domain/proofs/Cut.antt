-- Lists without their first items.
use Rattle.std.proofs.Common.{◌≡◌, ℕ, zero, suc, ◌+◌, ◌<◌, ◌≤◌, refl, ap, ◌∙◌, arith, List, [], ◌∷◌, length, drop, length-drop}
use Rattle.std.specs.List.{remove}

-- the first one that is left goes where one more is cut off
pub cut_more : {T : Type 0} (g : ℕ) (xs : List T) → drop (g + 1) xs ≡ remove (drop g xs) 0
cut_more zero [] = refl
cut_more zero (x ∷ xs) = refl
cut_more (suc g) [] = let more : suc g + 1 ≡ suc (g + 1) = omega arith in ap (λ n. drop n []) more
cut_more (suc g) (x ∷ xs) = let more : suc g + 1 ≡ suc (g + 1) = omega arith in ap (λ n. drop n (x ∷ xs)) more ∙ cut_more g xs

-- one of those that are left, taken out of the whole list
pub cut_remove : {T : Type 0} (g i : ℕ) (xs : List T) → g ≤ length xs → drop g (remove xs (g + i)) ≡ remove (drop g xs) i
cut_remove zero i xs le = let same : zero + i ≡ i = omega arith in ap (λ n. remove xs n) same
cut_remove (suc g) i [] le = absurd (omega (arith, le))
cut_remove (suc g) i (x ∷ xs) le =
    let more : suc g + i ≡ suc (g + i) = omega arith in
    ap (λ n. drop (suc g) (remove (x ∷ xs) n)) more ∙ cut_remove g i xs (omega (arith, le))

-- what is left lies in the whole list
pub cut_within : {T : Type 0} (g i : ℕ) (xs left : List T) → drop g xs ≡ left → i < length left → g + i < length xs
cut_within g i xs left is lt = let size = ap length is in let shorter = length-drop g xs in omega (arith, size, shorter, lt)
