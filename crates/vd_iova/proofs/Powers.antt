-- An alignment is a power of two, so it divides 64 or is a multiple of it.
use Rattle.std.proofs.Common.{◌≡◌, ℕ, zero, suc, ◌+◌, ◌-◌, ◌*◌, ◌/◌, ◌%◌, ◌^◌, ◌<◌, ◌≤◌, inl, inr, ap, sym, ◌∙◌, arith, true, false, Bool, nat_le, if◌then◌else◌, mul_assoc}
use Rattle.std.proofs.lemmas.Bool.Decides.{leb_tells}
use Rattle.std.proofs.Math.Nat.{pow-succ', mul_comm}
use Rattle.std.proofs.Math.Pow.{pow_mono}
use Rattle.std.proofs.lemmas.Nat.{div-add-mod', pow-add}
use Rattle.vd_num.specs.Number.{doubled_to, power_from}

doubled_is : (k p n : ℕ) → (j : ℕ) × (doubled_to k p n ≡ p * 2 ^ j)
unfolding doubled_to
doubled_is zero p n = (0, omega arith)
doubled_is (suc k) p n = by (nat_le n p) (doubled_is k (2 * p) n) where
  by : (b : Bool) → (j : ℕ) × (doubled_to k (2 * p) n ≡ 2 * p * 2 ^ j) → (j : ℕ) × ((if b then p else doubled_to k (2 * p) n) ≡ p * 2 ^ j)
  by true rest = (0, omega arith)
  by false rest = (suc rest.0, rest.1 ∙ ap (λ x. x * 2 ^ rest.0) (mul_comm 2 p) ∙ mul_assoc p 2 (2 ^ rest.0) ∙ ap (λ x. p * x) (sym (pow-succ' 2 rest.0)))

pub power_is : (n : ℕ) → (j : ℕ) × (power_from n ≡ 2 ^ j)
unfolding power_from
power_is n = let at = doubled_is 64 1 n in (at.0, at.1 ∙ omega arith)

pub small_step : (n step : ℕ) → step ≡ power_from n → step < 128 → (q : ℕ) × (64 ≡ q * step)
small_step n step e small = by (power_is n) where
  by : (j : ℕ) × (power_from n ≡ 2 ^ j) → (q : ℕ) × (64 ≡ q * step)
  by at = elim (leb_tells 7 at.0) [
    | inl big ↦ absurd (let more : 2 ^ 7 ≤ 2 ^ at.0 = pow_mono big.1 in let is = e ∙ at.1 in omega arith)
    | inr fits ↦
        (let f = fits.1 in
        let sum : 6 - at.0 + at.0 ≡ 6 = omega arith in
        (2 ^ (6 - at.0), ap (λ k. 2 ^ k) (sym sum) ∙ pow-add 2 (6 - at.0) at.0 ∙ ap (λ x. 2 ^ (6 - at.0) * x) (sym (e ∙ at.1))))
  ]

pub large_step : (n step : ℕ) → step ≡ power_from n → 64 < step → (q : ℕ) × (step ≡ q * 64)
large_step n step e large = by (power_is n) where
  by : (j : ℕ) × (power_from n ≡ 2 ^ j) → (q : ℕ) × (step ≡ q * 64)
  by at = elim (leb_tells 6 at.0) [
    | inl big ↦
        (let b = big.1 in
        let sum : at.0 - 6 + 6 ≡ at.0 = omega arith in
        (2 ^ (at.0 - 6), e ∙ at.1 ∙ ap (λ k. 2 ^ k) (sym sum) ∙ pow-add 2 (at.0 - 6) 6))
    | inr few ↦ absurd (let less : 2 ^ at.0 ≤ 2 ^ 6 = (let f = few.1 in let below : at.0 ≤ 6 = omega arith in pow_mono below) in let is = e ∙ at.1 in omega arith)
  ]

-- a multiple of a step of whole words starts with a word
pub word_start : (step q r start : ℕ) → step ≡ q * 64 → start ≡ r * step → 64 * (start / 64) ≡ start
word_start step q r start e at =
    let whole : start ≡ r * q * 64 = at ∙ ap (λ x. r * x) e ∙ sym (mul_assoc r q 64) in
    omega arith

pub quotient : (step start : ℕ) → start % step ≡ 0 → start ≡ start / step * step
quotient step start e = let all = div-add-mod' start step in omega arith
