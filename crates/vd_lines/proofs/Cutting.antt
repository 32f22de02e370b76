-- Where a line ends in what was read ahead, of which a front was searched before.
use Rattle.std.proofs.Common.{◌≡◌, ◌≢◌, ℕ, suc, ◌+◌, ◌-◌, ◌<◌, ◌≤◌, ap, sym, ◌∙◌, arith, inl, inr, List, [], ◌∷◌, ◌++◌, length, take, drop, length-drop, get_or}
use Rattle.std.proofs.Math.Seq.{drop-cons}
use Rattle.std.proofs.lemmas.List.{take-append-drop, length-take-le, get_or-take, get_or-drop, drop-drop}
use Rattle.std.proofs.lemmas.Bool.Decides.{leb_tells}
use Rattle.vd_lines.specs.Ahead.{IsOneLine, HasNoneBetween}

module _ (b : List ℕ) (next searched : ℕ) (low : next ≤ searched) (high : searched ≤ length b) (none : HasNoneBetween b next searched) where
  -- what is searched now, by its places in all
  size_behind : length (take (length b - searched) (drop searched b)) ≡ length b - searched
  size_behind = let size = length-drop searched b in length-take-le (length b - searched) (drop searched b) (omega (arith, size))

  behind : (k : ℕ) → k < length b - searched → get_or (take (length b - searched) (drop searched b)) k 0 ≡ get_or b (searched + k) 0
  behind k below = get_or-take (length b - searched) (drop searched b) k 0 below ∙ get_or-drop searched b k 0

  -- there is no LF
  pub none_more : IsOneLine (take (length b - searched) (drop searched b)) → HasNoneBetween b next (length b)
  none_more one k from below = elim (leb_tells searched k) [
    | inl past ↦
        (let after = past.1 in let size = size_behind in
        let place : searched + (k - searched) ≡ k = omega (arith, after) in
        λ at. one (k - searched) (omega (arith, after, below, size)) (behind (k - searched) (omega (arith, after, below)) ∙ ap (λ n. get_or b n 0) place ∙ at))
    | inr early ↦ none k from early.1
  ]

  -- there is one, the first of what is searched now
  module _ (more : ℕ) (within : more < length (take (length b - searched) (drop searched b))) (feed : get_or (take (length b - searched) (drop searched b)) more 0 ≡ 10)
      (before : (k : ℕ) → k < more → get_or (take (length b - searched) (drop searched b)) k 0 ≢ 10) where
    end_within : searched + more < length b
    end_within = let size = size_behind in omega (arith, size, within, high)

    end_is : get_or b (searched + more) 0 ≡ 10
    end_is = let size = size_behind in sym (behind more (omega (arith, size, within))) ∙ feed

    pub cut_parts : drop next b ≡ take (searched + more - next) (drop next b) ++ 10 ∷ drop (searched + more + 1) b
    cut_parts =
        let size = end_within in
        let place : next + (searched + more - next) ≡ searched + more = omega (arith, low) in
        let rest : drop (searched + more - next) (drop next b) ≡ 10 ∷ drop (searched + more + 1) b =
        drop-drop (searched + more - next) next b ∙ ap (λ n. drop n b) place ∙ drop-cons b (searched + more) 0 size
        ∙ ap (λ x. x ∷ drop (suc (searched + more)) b) end_is ∙ ap (λ n. 10 ∷ drop n b) (let e : suc (searched + more) ≡ searched + more + 1 = omega arith in e) in
        sym (take-append-drop (searched + more - next) (drop next b)) ∙ ap (λ r. take (searched + more - next) (drop next b) ++ r) rest

    pub cut_line : IsOneLine (take (searched + more - next) (drop next b))
    cut_line k below =
        let size = end_within in let dropped = length-drop next b in
        let len : length (take (searched + more - next) (drop next b)) ≡ searched + more - next = length-take-le (searched + more - next) (drop next b) (omega (arith, dropped, size)) in
        let same : get_or (take (searched + more - next) (drop next b)) k 0 ≡ get_or b (next + k) 0 =
        get_or-take (searched + more - next) (drop next b) k 0 (omega (arith, len, below)) ∙ get_or-drop next b k 0 in
        elim (leb_tells searched (next + k)) [
          | inl past ↦
              (let after = past.1 in let seen = size_behind in
              let place : searched + (next + k - searched) ≡ next + k = omega (arith, after) in
              λ at. before (next + k - searched) (omega (arith, after, len, below)) (behind (next + k - searched) (omega (arith, after, len, below, seen, within)) ∙ ap (λ n. get_or b n 0) place ∙ sym same ∙ at))
          | inr early ↦ (λ at. none (next + k) (omega arith) early.1 (sym same ∙ at))
        ]

-- all that was read ahead is one line
pub one_line : (b : List ℕ) (next : ℕ) → HasNoneBetween b next (length b) → IsOneLine (drop next b)
one_line b next none k below at = let size = length-drop next b in none (next + k) (omega arith) (omega (arith, size, below)) (sym (get_or-drop next b k 0) ∙ at)
