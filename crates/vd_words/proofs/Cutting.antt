-- A text cut at its first separator.
use Rattle.std.proofs.Common.{◌≡◌, ℕ, ◌+◌, ◌-◌, ◌<◌, ◌≤◌, Bool, true, false, eqb, ltb, cond, List, [], ◌∷◌, length, take, drop, Some, None, refl, ap, ◌∙◌, arith}
use Rattle.std.specs.Prelude.{position, not}
use Rattle.std.specs.List.{position_or_len}
use Rattle.std.proofs.lemmas.Bool.{ltb-true, ltb-false}
use Rattle.std.proofs.lemmas.Option.{cond_some}
use Rattle.std.proofs.lemmas.List.Splits.{slice_split_first, slice_split_none, length-slice_split}
use Rattle.std.proofs.lemmas.List.{take_all, length-drop}
use Rattle.std.proofs.lemmas.List.Sums.{prefix_len-le-length, fails_before_first}
use Rattle.vd_model.specs.Forms.{cut_at, no_more_words}

cond_none : {P : Type 0} (b : Bool) (x : ℕ) → cond b (Some x) None ≡ None → (b ≡ false → P) → P
cond_none true x e h = absurd cc
cond_none false x e h = h refl

pub cut_at_first : (s : ℕ) (left : List (List ℕ)) (xs : List ℕ) (i : ℕ) → left ≡ cut_at s xs → position (λ b. eqb b s) xs ≡ Some i
    → left ≡ take i xs ∷ cut_at s (take (length xs - (i + 1)) (drop (i + 1) xs))
cut_at_first s left xs i e p =
    let is_cut : ℕ → Bool = λ b. eqb b s in
    let h = cond_some (ltb (position_or_len is_cut xs) (length xs)) (position_or_len is_cut xs) i p in
    let below : position_or_len is_cut xs < length xs = ltb-true _ _ h.0 in
    let at : cut_at s xs ≡ take i xs ∷ cut_at s (drop (i + 1) xs) = rw (← h.1) (slice_split_first is_cut xs 0 below) in
    let all : take (length xs - (i + 1)) (drop (i + 1) xs) ≡ drop (i + 1) xs = take_all (length xs - (i + 1)) (drop (i + 1) xs) (omega (arith, length-drop (i + 1) xs)) in
    e ∙ rw all at

pub cut_nowhere : (s : ℕ) (left : List (List ℕ)) (xs : List ℕ) → left ≡ cut_at s xs → position (λ b. eqb b s) xs ≡ None → left ≡ xs ∷ []
cut_nowhere s left xs e p =
    let is_cut : ℕ → Bool = λ b. eqb b s in
    let le = prefix_len-le-length (λ x. not (is_cut x)) xs in
    let none : length xs ≤ position_or_len is_cut xs = cond_none (ltb (position_or_len is_cut xs) (length xs)) _ p (ltb-false _ _) in
    e ∙ slice_split_none is_cut xs (λ k d lt. fails_before_first is_cut xs k d (omega arith))

-- a text has a word, be it empty
pub not_done : {S : Type 0} (step : S) (s : ℕ) (left : List (List ℕ)) (xs : List ℕ) → left ≡ cut_at s xs → no_more_words step left ≡ None
not_done step s [] xs e = absurd (omega (arith, ap length e, length-slice_split (λ b. eqb b s) xs))
not_done step s (w ∷ ws) xs e = refl
