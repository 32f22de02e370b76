-- Where the fields of a ring stand, and that they are apart.
use Rattle.std.proofs.Common.{◌≡◌, ℕ, suc, ◌+◌, ◌-◌, ◌*◌, ◌/◌, ◌%◌, ◌^◌, ◌<◌, ◌≤◌, [], ◌∷◌, ap, ◌∙◌, ◌⊎◌, inl, inr, arith}
use Rattle.std.proofs.Math.Nat.{div-add-mod, mul-suc, mul-le-mul_left, mod-lt, mod-eq_of_lt}
use Rattle.std.proofs.lemmas.Bool.{cases_lt}
use Rattle.byteorder.specs.Endian.{little_bytes}
use Rattle.vd_model.specs.Rings.{available_index_at, available_slot_at, used_index_at, used_element_at}
use Rattle.vd_model.specs.declared.queue.RingPlace.{RingPlace}
use Rattle.vr_split_pair.specs.Lies.{IsLaid}

-- indices less than a lap apart have different slots
pub apart : (n p q : ℕ) → 0 < n → p < q → q < p + n → p % n ≡ q % n → ⊥
apart n p q some less near same =
    let first : n * (p / n) + p % n ≡ p = div-add-mod p n in
    let second : n * (q / n) + q % n ≡ q = div-add-mod q n in
    elim (cases_lt (p / n) (q / n)) [
      | inl behind ↦
          (let more : n * suc (p / n) ≤ n * (q / n) = mul-le-mul_left n (omega arith) in
          let spread : n * suc (p / n) ≡ n * (p / n) + n = mul-suc n (p / n) in
          omega (arith, first, second, more, spread, same))
      | inr ahead ↦
          (let less_laps : n * (q / n) ≤ n * (p / n) = mul-le-mul_left n ahead in
          omega (arith, first, second, less_laps, same))
    ]

-- a number of two bytes is written as it is modulo 65,536
pub index_bytes : (n : ℕ) → little_bytes 2 (n % 65536) ≡ little_bytes 2 n
index_bytes n = ap (λ a. a ∷ n % 65536 / 256 % 256 ∷ []) low ∙ ap (λ b. n % 256 ∷ b ∷ []) high where
  low : n % 65536 % 256 ≡ n % 256
  low = omega arith

  high : n % 65536 / 256 % 256 ≡ n / 256 % 256
  high = omega arith

module _ (r : RingPlace) (l : IsLaid r) where
  -- the fields' addresses
  pub available_index-plain : available_index_at r ≡ r.driver + 2
  available_index-plain = let d = l.device in let e = l.ends in mod-eq_of_lt (omega arith)

  pub used_index-plain : used_index_at r ≡ r.device + 2
  used_index-plain = let e = l.ends in mod-eq_of_lt (omega arith)

  pub slot-plain : (k : ℕ) → available_slot_at r k ≡ r.driver + (4 + 2 * (k % r.size))
  slot-plain k =
      let some = l.some in
      let low : k % r.size < r.size = mod-lt k some in
      let d = l.device in
      let e = l.ends in
      mod-eq_of_lt (omega arith)

  pub element-plain : (k : ℕ) → used_element_at r k ≡ r.device + (4 + 8 * (k % r.size))
  element-plain k =
      let some = l.some in
      let low : k % r.size < r.size = mod-lt k some in
      let e = l.ends in
      mod-eq_of_lt (omega arith)

  -- an index modulo 65,536 has the same slot
  pub slot-same : (k : ℕ) → available_slot_at r (k % 65536) ≡ available_slot_at r k
  slot-same k = ap (λ (i : ℕ). (r.driver + (4 + 2 * i)) % 2 ^ 64) (l.cyclic k)

  pub element-same : (k : ℕ) → used_element_at r (k % 65536) ≡ used_element_at r k
  element-same k = ap (λ (i : ℕ). (r.device + (4 + 8 * i)) % 2 ^ 64) (l.cyclic k)

  -- two slots, or two used elements, of indices less than a lap apart
  pub slots-apart : (p q : ℕ) → p < q → q < p + r.size → (available_slot_at r p + 2 ≤ available_slot_at r q) ⊎ (available_slot_at r q + 2 ≤ available_slot_at r p)
  slots-apart p q less near =
      let first = slot-plain p in
      let second = slot-plain q in
      let other : p % r.size ≡ q % r.size → ⊥ = apart r.size p q l.some less near in
      elim (cases_lt (p % r.size) (q % r.size)) [
        | inl h ↦ inl (omega (arith, first, second, h))
        | inr h ↦ elim (cases_lt (q % r.size) (p % r.size)) [
          | inl k ↦ inr (omega (arith, first, second, k))
          | inr k ↦ absurd (other (omega (arith, h, k)))
        ]
      ]

  pub elements-apart : (p q : ℕ) → p < q → q < p + r.size → (used_element_at r p + 8 ≤ used_element_at r q) ⊎ (used_element_at r q + 8 ≤ used_element_at r p)
  elements-apart p q less near =
      let first = element-plain p in
      let second = element-plain q in
      let other : p % r.size ≡ q % r.size → ⊥ = apart r.size p q l.some less near in
      elim (cases_lt (p % r.size) (q % r.size)) [
        | inl h ↦ inl (omega (arith, first, second, h))
        | inr h ↦ elim (cases_lt (q % r.size) (p % r.size)) [
          | inl k ↦ inr (omega (arith, first, second, k))
          | inr k ↦ absurd (other (omega (arith, h, k)))
        ]
      ]
