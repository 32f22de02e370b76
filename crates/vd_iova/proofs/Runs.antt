-- Runs of clear bits, word by word.
use Rattle.std.proofs.Common.{◌≡◌, ℕ, ◌+◌, ◌-◌, ◌*◌, ◌/◌, ◌%◌, ◌^◌, ◌<◌, ◌≤◌, ◌⊎◌, inl, inr, subst, ap, sym, ◌∙◌, arith, true, List, length, if◌then◌else◌}
use Rattle.std.proofs.lemmas.Bool.Decides.{nat_tests, leb_tells}
use Rattle.std.specs.Int.{bit_at}
use Rattle.std.specs.List.{slice_index, slice_set}
use Rattle.std.proofs.lemmas.Nat.Bits.{same_from_bits_below, bit_at_ones, bit_at-zero, bit_at-lt}
use Rattle.vd_num.specs.Number.{is_within}
use Rattle.vd_iova.specs.Bits.{bit, IsClear, IsClearWord, NoRun, IsTopInWord, IsTopRun, IsFullWord}
use Rattle.vd_iova.proofs.Multiples.{room_in, same_rest}
use Rattle.vd_iova.proofs.Pieces.{written}

pub bit_small : (words : List ℕ) (p : ℕ) → bit words p < 2
unfolding bit
bit_small words p = bit_at-lt (slice_index words (p / 64)) (p % 64)

pub one_not_zero : {n : ℕ} → n ≡ 0 → n ≡ 1 → ⊥
one_not_zero e f = omega arith

-- a bit is clear or set
pub bit_tells : (n : ℕ) → n < 2 → (n ≡ 0) ⊎ (n ≡ 1)
bit_tells n h = elim (leb_tells 1 n) [ inl some ↦ (let x = some.1 in inr (omega arith)) | inr none ↦ (let x = none.1 in inl (omega arith)) ]

pub all_ones : (w : ℕ) → w < 2 ^ 64 → ((k : ℕ) → k < 64 → bit_at w k ≡ 1) → w ≡ 2 ^ 64 - 1
all_ones w fits ones = same_from_bits_below 64 w (2 ^ 64 - 1) fits (omega arith) (λ i h. ones i h ∙ sym (bit_at_ones 64 i h))

pub no_ones : (w : ℕ) → w < 2 ^ 64 → ((k : ℕ) → k < 64 → bit_at w k ≡ 0) → w ≡ 0
no_ones w fits zeros = same_from_bits_below 64 w 0 fits (omega arith) (λ i h. zeros i h ∙ sym (bit_at-zero i))

pub bit_in : (words : List ℕ) (p s : ℕ) → p / 64 ≡ s → bit words p ≡ bit_at (slice_index words s) (p % 64)
unfolding bit
bit_in words p s e = ap (λ k. bit_at (slice_index words k) (p % 64)) e

pub bit_of : (words : List ℕ) (s i : ℕ) → i < 64 → bit words (64 * s + i) ≡ bit_at (slice_index words s) i
bit_of words s i h =
    let word : (64 * s + i) / 64 ≡ s = omega arith in
    let index : (64 * s + i) % 64 ≡ i = omega arith in
    bit_in words (64 * s + i) s word ∙ ap (λ k. bit_at (slice_index words s) k) index

-- one word of ones more
pub filled_one : (words : List ℕ) (i : ℕ) → i < length words → (p : ℕ) → bit (slice_set words i 18446744073709551615) p ≡ (if is_within (64 * i) 64 p then 1 else bit words p)
filled_one words i inside p =
    let at : (64 * i) / 64 ≡ i = omega arith in
    let lo : (64 * i) % 64 ≡ 0 = omega arith in
    subst (λ k. bit (slice_set words k 18446744073709551615) p ≡ (if is_within (64 * i) 64 p then 1 else bit words p)) at
    (written words (64 * i) 64 18446744073709551615 1 (omega arith) (omega arith)
    (λ k h. bit_at_ones 64 k h ∙ (let yes : is_within ((64 * i) % 64) 64 k ≡ true = grind (arith, nat_tests) in ap (λ b. if b then 1 else bit_at (slice_index words ((64 * i) / 64)) k) (sym yes))) p)

pub word_clear : (words : List ℕ) (i p : ℕ) → slice_index words i ≡ 0 → p / 64 ≡ i → bit words p ≡ 0
word_clear words i p none e = bit_in words p i e ∙ ap (λ w. bit_at w (p % 64)) none ∙ bit_at-zero (p % 64)

pub clear_word : (words : List ℕ) (i : ℕ) → slice_index words i < 2 ^ 64 → ((k : ℕ) → k < 64 → bit words (64 * i + k) ≡ 0) → slice_index words i ≡ 0
clear_word words i fits clear = no_ones (slice_index words i) fits (λ k h. sym (bit_of words i k h) ∙ clear k h)

-- ---- no run

pub no_run_join : (words : List ℕ) (step n lo mid hi : ℕ) → NoRun words step n lo mid → NoRun words step n mid hi → NoRun words step n lo hi
no_run_join words step n lo mid hi low high k above below multiple clear = elim (leb_tells mid k) [
  | inl up ↦ high k up.1 below multiple clear
  | inr down ↦ low k above down.1 multiple clear
]

-- a set bit at the start of each candidate
pub no_run_set : (words : List ℕ) (step n lo hi : ℕ) → 0 < n → ((k : ℕ) → lo ≤ k → k < hi → bit words k ≡ 1) → NoRun words step n lo hi
no_run_set words step n lo hi some set k above below multiple clear = one_not_zero (clear k (omega arith) (omega arith)) (set k above below)

pub full_bit : (words : List ℕ) (w k : ℕ) → IsFullWord words w → 64 * w ≤ k → k < 64 * (w + 1) → bit words k ≡ 1
full_bit words w k ones low high =
    let back : 64 * w + (k - 64 * w) ≡ k = omega arith in
    subst (λ x. bit words x ≡ 1) back (ones (k - 64 * w) (omega arith))

pub no_run_full : (words : List ℕ) (step n w : ℕ) → 0 < n → IsFullWord words w → NoRun words step n (64 * w) (64 * (w + 1))
no_run_full words step n w some ones = no_run_set words step n (64 * w) (64 * (w + 1)) some (λ k low high. full_bit words w k ones low high)

module _ (words : List ℕ) (step n q w : ℕ) (fits : n ≤ step) (whole : 64 ≡ q * step) where
  -- a run that starts in a word is a run of that word
  in_word : (i : ℕ) → i < 64 → i % step ≡ 0 → IsClear words (64 * w + i) n → IsClearWord (slice_index words w) i n
  in_word i below multiple clear j low high =
      let room = room_in step q i whole below multiple in
      sym (bit_of words w j (omega arith)) ∙ clear (64 * w + j) (omega arith) (omega arith)

  pub no_run_word : ((k : ℕ) → k < 64 → k % step ≡ 0 → IsClearWord (slice_index words w) k n → ⊥) → NoRun words step n (64 * w) (64 * (w + 1))
  no_run_word none k low high multiple clear =
      let i = k - 64 * w in
      let back : 64 * w + (k - 64 * w) ≡ k = omega arith in
      let aligned : (k - 64 * w) % step ≡ 0 = sym (same_rest step q w (k - 64 * w) whole) ∙ ap (λ x. x % step) back ∙ multiple in
      none (k - 64 * w) (omega arith) aligned (in_word (k - 64 * w) (omega arith) aligned (subst (λ x. IsClear words x n) (sym back) clear))

  -- the top run of a word, where no run starts in later words
  pub top_of_word : (lo hi : ℕ) → w < length words → 64 * (w + 1) ≤ hi → IsTopInWord (slice_index words w) step n lo → 0 < n → NoRun words step n (64 * (w + 1)) hi → IsTopRun words step n hi (64 * w + lo)
  top_of_word lo hi there inside run some later =
      let room = run.fits in record {
        inside = omega arith;
        multiple = same_rest step q w lo whole ∙ run.multiple;
        below = omega arith;
        clear = λ p low high.
            let word : p / 64 ≡ w = omega arith in
            let index : lo ≤ p % 64 = omega arith in
            bit_in words p w word ∙ run.clear (p % 64) (omega arith) (omega arith);
        top = no_run_join words step n (64 * w + lo + 1) (64 * (w + 1)) hi
            (λ k low high multiple clear.
            let back : 64 * w + (k - 64 * w) ≡ k = omega arith in
            let aligned : (k - 64 * w) % step ≡ 0 = sym (same_rest step q w (k - 64 * w) whole) ∙ ap (λ x. x % step) back ∙ multiple in
            run.top (k - 64 * w) (omega arith) (omega arith) aligned (in_word (k - 64 * w) (omega arith) aligned (subst (λ x. IsClear words x n) (sym back) clear)))
            later;
      }
