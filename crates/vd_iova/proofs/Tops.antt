-- The greatest clear bit of a word, by leading zeros.
use Rattle.std.proofs.Common.{◌≡◌, ℕ, suc, ◌+◌, ◌-◌, ◌*◌, ◌/◌, ◌%◌, ◌^◌, ◌<◌, ◌≤◌, inl, inr, ap, subst, ◌∙◌, arith, true, false, if◌then◌else◌, min}
use Rattle.std.proofs.lemmas.Bool.Decides.{nat_tests, leb_tells, eqb_tells}
use Rattle.std.proofs.Math.Pow.{pow_mono, pow_pos}
use Rattle.std.specs.Prelude.{bit_and}
use Rattle.std.specs.Int.{bit_at, bit_not, w64}
use Rattle.std.proofs.lemmas.Nat.{div_below, le-div, div-add-mod', mod_below}
use Rattle.std.proofs.Math.Nat.{pow-succ'}
use Rattle.std.proofs.lemmas.Nat.Bits.{bit_at_and, bit_at_not, bit_at-lt, bit_at-zero}
use Rattle.vd_num.specs.Number.{is_within}
use Rattle.vd_iova.specs.Bits.{IsTopClear, IsClearWord, IsTopInWord}
use Rattle.vd_iova.proofs.Masks.{mask_bit}
use Rattle.vd_iova.proofs.Multiples.{room_in, is_multiple, no_multiple}

-- the clear bits of a word below a bit, as ones
abbrev clear_of : ℕ → ℕ → ℕ
clear_of word end = bit_and (bit_not w64 word) (2 ^ (0 + end) - 2 ^ 0)

clear_bit : (word end i : ℕ) → word < 2 ^ 64 → end ≤ 64 → i < end → bit_at (clear_of word end) i ≡ 1 - bit_at word i
clear_bit word end i fits room below =
    bit_at_and (bit_not w64 word) (2 ^ (0 + end) - 2 ^ 0) i
    ∙ ap (λ k. min k (bit_at (2 ^ (0 + end) - 2 ^ 0) i)) (bit_at_not w64 word i fits (omega arith))
    ∙ ap (λ k. min (1 - bit_at word i) k) (mask_bit 0 end i)
    ∙ (let inside : is_within 0 end i ≡ true = grind (arith, nat_tests) in ap (λ b. min (1 - bit_at word i) (if b then 1 else 0)) inside)
    ∙ omega (arith, bit_at-lt word i)

past_bit : (word end i : ℕ) → end ≤ i → bit_at (clear_of word end) i ≡ 0
past_bit word end i past =
    let both = bit_at_and (bit_not w64 word) (2 ^ (0 + end) - 2 ^ 0) i ∙ ap (λ k. min (bit_at (bit_not w64 word) i) k) (mask_bit 0 end i) in
    let outside : is_within 0 end i ≡ false = grind (arith, nat_tests) in
    both ∙ ap (λ b. min (bit_at (bit_not w64 word) i) (if b then 1 else 0)) outside ∙ omega arith

-- the top bit of a number, and those past it
top_bit : (a j : ℕ) → 2 ^ j ≤ a → a < 2 * 2 ^ j → bit_at a j ≡ 1
top_bit a j low high =
    let some = pow_pos j in
    let least : 1 ≤ a / 2 ^ j = le-div 1 a (2 ^ j) some (omega (arith, low)) in
    let most : a / 2 ^ j < 2 = div_below a (2 ^ j) 2 some high in
    omega (arith, least, most)

zero_past : (a j i : ℕ) → a < 2 * 2 ^ j → j < i → bit_at a i ≡ 0
zero_past a j i high past =
    let more : 2 ^ suc j ≤ 2 ^ i = pow_mono (let p : suc j ≤ i = omega arith in p) in
    let double = pow-succ' 2 j in
    let none : a / 2 ^ i < 1 = div_below a (2 ^ i) 1 (pow_pos i) (omega (arith, more, double, high)) in
    omega (arith, none)

pub none_clear : (word end : ℕ) → word < 2 ^ 64 → end ≤ 64 → clear_of word end ≡ 0 → (i : ℕ) → i < end → bit_at word i ≡ 1
none_clear word end fits room e i below =
    let bit = clear_bit word end i fits room below in
    let zero : bit_at (clear_of word end) i ≡ 0 = ap (λ k. bit_at k i) e ∙ bit_at-zero i in
    omega (arith, bit, zero, bit_at-lt word i)

pub top_clear_is : (word end j : ℕ) → word < 2 ^ 64 → end ≤ 64 → 2 ^ j ≤ clear_of word end → clear_of word end < 2 * 2 ^ j → IsTopClear word end j
top_clear_is word end j fits room low high = elim (leb_tells end j) [
  | inl past ↦ absurd (let none = past_bit word end j past.1 in omega (arith, one, none))
  | inr inside ↦ (let below = inside.1 in record {
    below = below;
    clear = (let bit = clear_bit word end j fits room below in omega (arith, one, bit, bit_at-lt word j));
    top = λ i above under.
        (let bit = clear_bit word end i fits room under in
        let zero = zero_past (clear_of word end) j i high above in
        omega (arith, bit, zero, bit_at-lt word i));
  })
] where
  one : bit_at (clear_of word end) j ≡ 1
  one = top_bit (clear_of word end) j low high

-- ---- the runs that start at multiples of a step

-- none of them starts from bit `end` on
abbrev pub NoneFrom : ℕ → ℕ → ℕ → ℕ → Type 0
NoneFrom word step n end = (k : ℕ) → end ≤ k → k < 64 → k % step ≡ 0 → IsClearWord word k n → ⊥

module _ (word step n end : ℕ) (some : 0 < n) (fits : n ≤ step) (none : NoneFrom word step n end) where
  -- all bits below are set
  pub none_at_all : ((i : ℕ) → i < end → bit_at word i ≡ 1) → (k : ℕ) → k < 64 → k % step ≡ 0 → IsClearWord word k n → ⊥
  none_at_all set k small multiple clear = elim (leb_tells end k) [
    | inl past ↦ none k past.1 small multiple clear
    | inr below ↦ (let one = set k below.1 in let zero = clear k (omega arith) (omega arith) in absurd (omega (arith, one, zero)))
  ]

  module _ (top : ℕ) (is : IsTopClear word end top) where
    -- none starts past the start of the step in which the greatest clear bit is
    pub none_past : (k : ℕ) → top - top % step < k → k < 64 → k % step ≡ 0 → IsClearWord word k n → ⊥
    none_past k above small multiple clear = elim (leb_tells end k) [
      | inl past ↦ none k past.1 small multiple clear
      | inr below ↦ elim (leb_tells k top) [
        | inl low ↦
            (let l = low.1 in
            let split = div-add-mod' top step in
            let rest = mod_below top step (let pos : 0 < step = omega arith in pos) in
            no_multiple step (top / step) k (omega (arith, split)) (omega (arith, split, rest)) multiple)
        | inr high ↦ (let one = is.top k high.1 below.1 in let zero = clear k (omega arith) (omega arith) in absurd (omega (arith, one, zero)))
      ]
    ]

    pub none_from : (IsClearWord word (top - top % step) n → ⊥) → NoneFrom word step n (top - top % step)
    none_from busy k low small multiple clear = elim (eqb_tells k (top - top % step)) [
      | inl same ↦ busy (subst (λ i. IsClearWord word i n) same.1 clear)
      | inr other ↦ (let ne = other.1 in none_past k (omega arith) small multiple clear)
    ]

    pub top_of_step : (q : ℕ) → 64 ≡ q * step → end ≤ 64 → (top - top % step) % step ≡ 0
    top_of_step q whole room =
        let split = div-add-mod' top step in
        is_multiple step (top / step) (top - top % step) (omega (arith, split))

    pub step_fits : (q : ℕ) → 64 ≡ q * step → end ≤ 64 → top - top % step + n ≤ 64
    step_fits q whole room =
        let below = is.below in
        let inside = room_in step q (top - top % step) whole (omega arith) (top_of_step q whole room) in
        omega arith

    pub top_in_word : (q : ℕ) → 64 ≡ q * step → end ≤ 64 → IsClearWord word (top - top % step) n → IsTopInWord word step n (top - top % step)
    top_in_word q whole room clear = record {
      multiple = top_of_step q whole room;
      fits = step_fits q whole room;
      clear = clear;
      top = none_past;
    }
