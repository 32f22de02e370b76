-- Which sizes a ring may have.
use Rattle.std.proofs.Common.{◌≡◌, ℕ, ◌^◌, ◌+◌, ◌*◌, ◌%◌, ◌<◌, ◌≤◌, Bool, true, false, ◌==◌, ◌&&◌, nat_le, if◌then◌else◌, refl, ap, sym, ◌∙◌, arith, Some, None, Option, inl, inr}
use Rattle.std.proofs.lemmas.Bool.{and_parts, leb-true, eqb-true}
use Rattle.std.proofs.lemmas.Bool.Decides.{leb_tells, nat_tests}
use Rattle.std.proofs.Math.Pow.{pow_mono}
use Rattle.std.proofs.Math.Nat.{one-le-pow}
use Rattle.vd_num.specs.Number.{power_from, doubled_to}
use Rattle.vd_iova.proofs.Powers.{power_is}
use Rattle.vd_model.specs.Rings.{IsRingSize}
use Rattle.vd_model.specs.RingTurns.{is_ring_size, ring_bytes}

pub ring_size_is : (size : ℕ) → is_ring_size size ≡ true → IsRingSize size
ring_size_is size e =
    let p = and_parts (nat_le size 32768) (power_from size == size) e in
    let at = power_is size in
    let same : size ≡ 2 ^ at.0 = sym (eqb-true (power_from size) size p.1) ∙ at.1 in
    let low : size ≤ 32768 = leb-true size 32768 p.0 in
    (at.0, fits at.0 same low, same) where
      fits : (k : ℕ) → size ≡ 2 ^ k → size ≤ 32768 → k ≤ 15
      fits k same low = elim (leb_tells 16 k) [
        | inl big ↦ absurd (let more : 2 ^ 16 ≤ 2 ^ k = pow_mono big.1 in omega arith)
        | inr few ↦ (let f = few.1 in omega arith)
      ]

-- a size isn't one where its power of two is another number, where it is too large, or where it is 0
no_size : (size : ℕ) (t : Bool) → is_ring_size size ≡ t → t ≡ false → None ≡ (if is_ring_size size then Some size else None)
no_size size t e f = ap (λ b. if b then Some size else None) (sym (e ∙ f))

pub other_power : (size power : ℕ) → power ≡ power_from size → (power == size) ≡ false → None ≡ (if is_ring_size size then Some size else None)
other_power size power e f = no_size size (nat_le size 32768 && (power == size)) (ap (λ n. nat_le size 32768 && (n == size)) (sym e)) (by (nat_le size 32768) f) where
  by : (t : Bool) → (power == size) ≡ false → (t && (power == size)) ≡ false
  by true g = g
  by false g = refl

pub too_large : (size : ℕ) → 32768 < size → None ≡ (if is_ring_size size then Some size else None)
too_large size h =
    let off : nat_le size 32768 ≡ false = grind (arith, nat_tests) in
    no_size size (false && (power_from size == size)) (ap (λ t. t && (power_from size == size)) off) refl

no_power : (size : ℕ) → (power_from size == size) ≡ true → 0 < size
no_power size e =
    let at = power_is size in
    let same : power_from size ≡ size = eqb-true (power_from size) size e in
    let some : 1 ≤ 2 ^ at.0 = one-le-pow at.0 2 (omega arith) in
    let is = at.1 in
    omega arith

pub no_slots : (size : ℕ) → size < 1 → None ≡ (if is_ring_size size then Some size else None)
no_slots size h = by (power_from size == size) refl where
  both : (t : Bool) → (t && false) ≡ false
  both true = refl
  both false = refl

  by : (t : Bool) → (power_from size == size) ≡ t → None ≡ (if is_ring_size size then Some size else None)
  by true e = absurd (let some = no_power size e in omega arith)
  by false e = no_size size (nat_le size 32768 && false) (ap (λ t. nat_le size 32768 && t) e) (both (nat_le size 32768))

-- ---- layouts

pub laid_bytes : (size driver device bytes : ℕ) → driver ≡ 16 * size → driver + (6 + 2 * size) ≤ device → device < driver + (6 + 2 * size) + 4 → device % 4 ≡ 0 → bytes ≡ device + (6 + 8 * size) → bytes ≡ ring_bytes size
laid_bytes size driver device bytes a b c d e = omega arith
