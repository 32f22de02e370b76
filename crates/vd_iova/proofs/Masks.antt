-- Runs of bits in a word.
use Rattle.std.proofs.Common.{◌≡◌, ℕ, ◌+◌, ◌-◌, ◌*◌, ◌/◌, ◌%◌, ◌^◌, ◌<◌, ◌≤◌, inl, inr, refl, ap, sym, ◌∙◌, arith, Bool, true, false, if◌then◌else◌, min, max}
use Rattle.std.proofs.lemmas.Bool.Decides.{nat_tests, leb_tells}
use Rattle.std.proofs.Math.Pow.{pow_mono, pow_pos}
use Rattle.std.specs.Prelude.{bit_and, bit_or}
use Rattle.std.specs.Int.{bit_at, bit_not, w64}
use Rattle.std.proofs.lemmas.Nat.Bits.{bit_at_mask_inside, bit_at_mask_below, bit_at_mask_above, bit_at_or, bit_at_and, bit_at_not, bit_at-lt, bit_at-zero, same_from_bits, ones_shr}
use Rattle.std.proofs.lemmas.Grind.{common_steps}
use Rattle.vd_num.specs.Number.{is_within}

pub mask_bit : (lo n i : ℕ) → bit_at (2 ^ (lo + n) - 2 ^ lo) i ≡ (if is_within lo n i then 1 else 0)
mask_bit lo n i = elim (leb_tells lo i) [
  | inr low ↦ (let out : is_within lo n i ≡ false = grind (arith, nat_tests) in bit_at_mask_below lo (lo + n) i low.1 ∙ ap (λ b. if b then 1 else 0) (sym out))
  | inl low ↦ elim (leb_tells (lo + n) i) [
    | inl high ↦ (let out : is_within lo n i ≡ false = grind (arith, nat_tests) in bit_at_mask_above lo (lo + n) i high.1 ∙ ap (λ b. if b then 1 else 0) (sym out))
    | inr high ↦ (let inside : is_within lo n i ≡ true = grind (arith, nat_tests) in bit_at_mask_inside lo (lo + n) i low.1 high.1 ∙ ap (λ b. if b then 1 else 0) (sym inside))
  ]
]

by_bit : (b : Bool) (f g : ℕ → ℕ) → f 1 ≡ g 1 → f 0 ≡ g 0 → f (if b then 1 else 0) ≡ g (if b then 1 else 0)
by_bit true f g one zero = one
by_bit false f g one zero = zero

pub or_bit : (w lo n i : ℕ) → bit_at (bit_or w (2 ^ (lo + n) - 2 ^ lo)) i ≡ (if is_within lo n i then 1 else bit_at w i)
or_bit w lo n i = bit_at_or w (2 ^ (lo + n) - 2 ^ lo) i ∙ ap (λ k. max (bit_at w i) k) (mask_bit lo n i) ∙ by (is_within lo n i) where
  by : (b : Bool) → max (bit_at w i) (if b then 1 else 0) ≡ (if b then 1 else bit_at w i)
  by true = omega (arith, bit_at-lt w i)
  by false = omega (arith, bit_at-lt w i)

pub and_bit : (w lo n i : ℕ) → 2 ^ (lo + n) - 2 ^ lo < 2 ^ 64 → i < 64 → bit_at (bit_and w (bit_not w64 (2 ^ (lo + n) - 2 ^ lo))) i ≡ (if is_within lo n i then 0 else bit_at w i)
and_bit w lo n i fits h =
    bit_at_and w (bit_not w64 (2 ^ (lo + n) - 2 ^ lo)) i
    ∙ ap (λ k. min (bit_at w i) k) (bit_at_not w64 (2 ^ (lo + n) - 2 ^ lo) i fits h ∙ ap (λ k. 1 - k) (mask_bit lo n i)) ∙ by (is_within lo n i) where
      by : (b : Bool) → min (bit_at w i) (1 - (if b then 1 else 0)) ≡ (if b then 0 else bit_at w i)
      by true = omega (arith, bit_at-lt w i)
      by false = omega (arith, bit_at-lt w i)

pub clear_bits : (w lo n : ℕ) → bit_and w (2 ^ (lo + n) - 2 ^ lo) ≡ 0 → (i : ℕ) → lo ≤ i → i < lo + n → bit_at w i ≡ 0
clear_bits w lo n e i low high =
    let both = ap (λ k. bit_at k i) e in
    let none : min (bit_at w i) (bit_at (2 ^ (lo + n) - 2 ^ lo) i) ≡ 0 = sym (bit_at_and w (2 ^ (lo + n) - 2 ^ lo) i) ∙ both ∙ bit_at-zero i in
    let one = bit_at_mask_inside lo (lo + n) i low high in
    omega (arith, none, one)

pub all_clear : (w lo n : ℕ) → ((i : ℕ) → lo ≤ i → i < lo + n → bit_at w i ≡ 0) → bit_and w (2 ^ (lo + n) - 2 ^ lo) ≡ 0
all_clear w lo n clear = same_from_bits _ 0 (λ i. bit_at_and w (2 ^ (lo + n) - 2 ^ lo) i ∙ ap (λ k. min (bit_at w i) k) (mask_bit lo n i) ∙ by i (is_within lo n i) refl ∙ sym (bit_at-zero i)) where
  by : (i : ℕ) (b : Bool) → is_within lo n i ≡ b → min (bit_at w i) (if b then 1 else 0) ≡ 0
  by i true e =
      let low : lo ≤ i = grind (arith, nat_tests) in
      let high : i < lo + n = grind (arith, nat_tests) in
      omega (arith, clear i low high)
  by i false e = omega arith

pub ones_of : (lo n : ℕ) → lo + n ≤ 64 → 18446744073709551615 / 2 ^ (64 - (lo + n)) ≡ 2 ^ (lo + n) - 1
ones_of lo n h =
    let same : 64 - (64 - (lo + n)) ≡ lo + n = omega arith in
    ones_shr 64 (64 - (lo + n)) (omega arith) ∙ ap (λ k. 2 ^ k - 1) same

pub one_of : (lo n : ℕ) → 0 < n → lo + n ≤ 64 → 1 * 2 ^ lo % 18446744073709551616 ≡ 2 ^ lo
one_of lo n some h = let below : lo < 64 = omega arith in grind (arith, common_steps)

pub mask_of : (lo n : ℕ) → 0 < n → lo + n ≤ 64 → 18446744073709551615 / 2 ^ (64 - (lo + n)) - (1 * 2 ^ lo % 18446744073709551616 - 1) ≡ 2 ^ (lo + n) - 2 ^ lo
mask_of lo n some h =
    let one = one_of lo n some h in
    let ones = ones_of lo n h in
    let pos : 0 < 2 ^ lo = grind (arith, common_steps) in
    rw (ones, one) (omega arith)

pub mask_fits : (lo n : ℕ) → 0 < n → lo + n ≤ 64 → 1 * 2 ^ lo % 18446744073709551616 - 1 ≤ 18446744073709551615 / 2 ^ (64 - (lo + n))
mask_fits lo n some h =
    let one = one_of lo n some h in
    let ones = ones_of lo n h in
    let more : 2 ^ lo ≤ 2 ^ (lo + n) = (let wider : lo ≤ lo + n = omega arith in pow_mono wider) in
    rw (ones, one) (omega arith)

pub mask_small : (lo n : ℕ) → lo + n ≤ 64 → 2 ^ (lo + n) - 2 ^ lo < 2 ^ 64
mask_small lo n h =
    let less : 2 ^ (lo + n) ≤ 2 ^ 64 = pow_mono h in
    let pos : 0 < 2 ^ lo = pow_pos lo in
    omega arith
