-- A number's hexadecimal digits, as a loop writes them from the last to the first.
use Rattle.std.proofs.Common.{◌≡◌, ℕ, zero, suc, ◌+◌, ◌-◌, ◌/◌, ◌%◌, ◌^◌, ◌<◌, ◌≤◌, false, eqb, List, ◌∷◌, length, drop, set, refl, sym, ap, ◌∙◌, arith, length-set}
use Rattle.std.proofs.Math.Nat.{pow-suc}
use Rattle.std.proofs.lemmas.Bool.{ne_eqb}
use Rattle.std.proofs.lemmas.List.{drop-set, drop_all}
use Rattle.std.specs.Fmt.{digit_glyph, digits_onto, digits}

-- what is written from at on, and the number that is left
pub record DigitsSoFar (number left at : ℕ) (buffer : List ℕ) : Type 0 where
  pub low : 4 ≤ at
  pub high : at ≤ 19
  pub room : length buffer ≡ 19
  pub below : left < 16 ^ (at - 3)
  pub so_far : digits_onto (45 + at) 16 false left (drop at buffer) ≡ digits 16 false number

pub begins : (number : ℕ) (buffer : List ℕ) → number < 2 ^ 64 → length buffer ≡ 19 → DigitsSoFar number number 19 buffer
unfolding digits
begins number buffer fits room = record {
  low = omega arith;
  high = omega arith;
  room = room;
  below = fits;
  so_far = ap (digits_onto 64 16 false number) (drop_all 19 buffer (omega (arith, room)));
}

one_more : (k n : ℕ) (acc : List ℕ) → 16 ≤ n → digits_onto (suc k) 16 false n acc ≡ digits_onto k 16 false (n / 16) (digit_glyph false (n % 16) ∷ acc)
one_more k n acc h = let more : eqb (n / 16) 0 ≡ false = ne_eqb (n / 16) 0 (λ z. omega arith) in rw more refl

the_last : (k n : ℕ) (acc : List ℕ) → n < 16 → digits_onto (suc k) 16 false n acc ≡ digit_glyph false n ∷ acc
the_last k n acc h =
    let none : n / 16 ≡ 0 = omega arith in
    let same : n % 16 ≡ n = omega arith in
    rw (none, same) refl

-- a number of at least 16 has two digits or more, and one less without the last
shorter : (n k : ℕ) → 16 ≤ n → n < 16 ^ k → (2 ≤ k) × (n / 16 < 16 ^ (k - 1))
shorter n zero h lt = absurd (omega arith)
shorter n (suc zero) h lt = absurd (omega arith)
shorter n (suc (suc k)) h lt =
    let e : suc (suc k) - 1 ≡ suc k = omega arith in
    let power = pow-suc 16 (suc k) in
    (omega arith, rw e (omega (arith, power)))

written : (buffer : List ℕ) (at digit : ℕ) → 1 ≤ at → at ≤ length buffer → drop (at - 1) (set buffer (at - 1) digit) ≡ digit ∷ drop at buffer
written buffer at digit low high =
    let next : at - 1 + 1 ≡ at = omega arith in
    drop-set buffer (at - 1) digit (omega arith) ∙ ap (λ i. digit ∷ drop i buffer) next

pub goes_on : (number left at digit : ℕ) (buffer : List ℕ) → DigitsSoFar number left at buffer → 16 ≤ left → digit ≡ digit_glyph false (left % 16)
    → DigitsSoFar number (left / 16) (at - 1) (set buffer (at - 1) digit)
goes_on number left at digit buffer d h is =
    let s = shorter left (at - 3) h d.below in
    let fuel : 45 + at ≡ suc (45 + (at - 1)) = omega (arith, d.low) in
    let power : at - 3 - 1 ≡ at - 1 - 3 = omega arith in
    let room : at ≤ length buffer = omega (arith, d.room, d.high) in
    let tail : drop (at - 1) (set buffer (at - 1) digit) ≡ digit_glyph false (left % 16) ∷ drop at buffer =
    written buffer at digit (omega (arith, d.low)) room ∙ ap (λ x. x ∷ drop at buffer) is in
    let step : digits_onto (45 + at) 16 false left (drop at buffer) ≡ digits_onto (45 + (at - 1)) 16 false (left / 16) (digit_glyph false (left % 16) ∷ drop at buffer) =
    ap (λ k. digits_onto k 16 false left (drop at buffer)) fuel ∙ one_more (45 + (at - 1)) left (drop at buffer) h in
    record {
      low = omega (arith, s.0, d.low);
      high = omega (arith, d.high);
      room = length-set buffer (at - 1) digit ∙ d.room;
      below = rw (← power) s.1;
      so_far = ap (digits_onto (45 + (at - 1)) 16 false (left / 16)) tail ∙ sym step ∙ d.so_far;
    }

pub ends : (number left at digit : ℕ) (buffer : List ℕ) → DigitsSoFar number left at buffer → left < 16 → digit ≡ digit_glyph false (left % 16)
    → drop (at - 1) (set buffer (at - 1) digit) ≡ digits 16 false number
ends number left at digit buffer d h is =
    let fuel : 45 + at ≡ suc (45 + (at - 1)) = omega (arith, d.low) in
    let room : at ≤ length buffer = omega (arith, d.room, d.high) in
    let one : left % 16 ≡ left = omega arith in
    written buffer at digit (omega (arith, d.low)) room ∙ ap (λ x. x ∷ drop at buffer) (is ∙ ap (digit_glyph false) one) ∙ sym (the_last (45 + (at - 1)) left (drop at buffer) h)
    ∙ ap (λ k. digits_onto k 16 false left (drop at buffer)) (sym fuel) ∙ d.so_far
