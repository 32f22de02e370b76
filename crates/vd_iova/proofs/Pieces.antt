-- Runs of bits in a row of words, a word at a time.
use Rattle.std.proofs.Common.{◌≡◌, ◌≢◌, ℕ, ◌+◌, ◌*◌, ◌/◌, ◌%◌, ◌<◌, ◌≤◌, inl, inr, refl, subst, ap, sym, ◌∙◌, arith, Bool, true, false, if◌then◌else◌, List, length, get_or-set_same, get_or-set_other}
use Rattle.std.proofs.lemmas.Bool.Decides.{nat_tests, eqb_tells}
use Rattle.std.specs.Int.{bit_at}
use Rattle.std.specs.List.{slice_index, slice_set}
use Rattle.std.proofs.lemmas.Nat.Bits.{bit_at-zero}
use Rattle.vd_num.specs.Number.{is_within}
use Rattle.vd_iova.specs.Bits.{bit}

-- within one word, a page is in the piece where its bit is
in_word : (at n p : ℕ) → at % 64 + n ≤ 64 → p / 64 ≡ at / 64 → is_within at n p ≡ is_within (at % 64) n (p % 64)
in_word at n p fits same = grind (arith, nat_tests)

off_word : (at n p : ℕ) → at % 64 + n ≤ 64 → p / 64 ≢ at / 64 → is_within at n p ≡ false
off_word at n p fits other = grind (arith, nat_tests)

pub written : (words : List ℕ) (at n word v : ℕ) → at / 64 < length words → at % 64 + n ≤ 64
    → ((i : ℕ) → i < 64 → bit_at word i ≡ (if is_within (at % 64) n i then v else bit_at (slice_index words (at / 64)) i))
    → (p : ℕ) → bit (slice_set words (at / 64) word) p ≡ (if is_within at n p then v else bit words p)
unfolding bit
written words at n word v inside fits bits p = elim (eqb_tells (p / 64) (at / 64)) [
  | inl same ↦
      (let small : p % 64 < 64 = omega arith in
      ap (λ k. bit_at (slice_index (slice_set words (at / 64) word) k) (p % 64)) same.1
      ∙ ap (λ w. bit_at w (p % 64)) (get_or-set_same words (at / 64) word 0 inside) ∙ bits (p % 64) small
      ∙ ap (λ b. if b then v else bit_at (slice_index words (at / 64)) (p % 64)) (sym (in_word at n p fits same.1))
      ∙ ap (λ k. if is_within at n p then v else bit_at (slice_index words k) (p % 64)) (sym same.1))
  | inr other ↦
      ap (λ w. bit_at w (p % 64)) (get_or-set_other words (at / 64) (p / 64) word 0 other.1)
      ∙ ap (λ b. if b then v else bit words p) (sym (off_word at n p fits other.1))
]

pub one_more : (start done n v x p : ℕ) → (if is_within (start + done) n p then v else (if is_within start done p then v else x)) ≡ (if is_within start (done + n) p then v else x)
one_more start done n v x p = by (is_within (start + done) n p) refl where
  by : (b : Bool) → is_within (start + done) n p ≡ b → (if b then v else (if is_within start done p then v else x)) ≡ (if is_within start (done + n) p then v else x)
  by true e = let whole : is_within start (done + n) p ≡ true = grind (arith, nat_tests) in ap (λ b. if b then v else x) (sym whole)
  by false e = let same : is_within start done p ≡ is_within start (done + n) p = grind (arith, nat_tests) in ap (λ b. if b then v else x) same

pub piece_clear : (words : List ℕ) (at n : ℕ) → at % 64 + n ≤ 64 → ((i : ℕ) → at % 64 ≤ i → i < at % 64 + n → bit_at (slice_index words (at / 64)) i ≡ 0)
    → (p : ℕ) → at ≤ p → p < at + n → bit words p ≡ 0
unfolding bit
piece_clear words at n fits clear p low high =
    let same : p / 64 ≡ at / 64 = omega arith in
    ap (λ k. bit_at (slice_index words k) (p % 64)) same ∙ clear (p % 64) (omega arith) (omega arith)

pub clear_piece : (words : List ℕ) (at n : ℕ) → at % 64 + n ≤ 64 → ((p : ℕ) → at ≤ p → p < at + n → bit words p ≡ 0)
    → (i : ℕ) → at % 64 ≤ i → i < at % 64 + n → bit_at (slice_index words (at / 64)) i ≡ 0
unfolding bit
clear_piece words at n fits clear i low high =
    let p = 64 * (at / 64) + i in
    let word : p / 64 ≡ at / 64 = omega arith in
    let index : p % 64 ≡ i = omega arith in
    let here = clear p (omega arith) (omega arith) in
    subst (λ k. bit_at (slice_index words k) i ≡ 0) word (subst (λ k. bit_at (slice_index words (p / 64)) k ≡ 0) index here)

pub zero_bits : (words : List ℕ) → ((i : ℕ) → slice_index words i ≡ 0) → (p : ℕ) → bit words p ≡ 0
unfolding bit
zero_bits words zeros p = ap (λ w. bit_at w (p % 64)) (zeros (p / 64)) ∙ bit_at-zero (p % 64)
