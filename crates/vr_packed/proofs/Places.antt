-- Places of a ring, and the slots that they are.
use Rattle.std.proofs.Common.{◌≡◌, ℕ, suc, ◌+◌, ◌*◌, ◌/◌, ◌%◌, ◌<◌, ◌≤◌, ◌==◌, Bool, true, false, not, List, length, get_or, refl, sym, ap, ◌∙◌, ◌⊎◌, inl, inr, arith}
use Rattle.std.proofs.Math.ListN.{set}
use Rattle.std.proofs.Math.Nat.{div-add-mod, mul-suc, mul-le-mul_left, mod-lt, add-mod_right, add-div_right}
use Rattle.std.proofs.lemmas.Bool.{cases_lt}
use Rattle.std.proofs.lemmas.List.{length-set, get_or-set_same, get_or-set_other}
use Rattle.vr_slots.specs.declared.slot.Slot.{Slot}
use Rattle.vr_slots.specs.Slots.{empty_slot, wrap_of, slot_at, with_slot}

-- places less than a lap apart are different slots
pub apart : (n p q : ℕ) → 0 < n → p < q → q < p + n → p % n ≡ q % n → ⊥
apart n p q some less near same =
    let first : n * (p / n) + p % n ≡ p = div-add-mod p n in
    let second : n * (q / n) + q % n ≡ q = div-add-mod q n in
    elim (cases_lt (p / n) (q / n)) [
      | inl behind ↦
          (let more : n * suc (p / n) ≤ n * (q / n) = mul-le-mul_left n (omega arith) in
          let spread : n * suc (p / n) ≡ n * (p / n) + n = mul-suc n (p / n) in
          omega (arith, first, second, more, spread, same))
      | inr ahead ↦
          (let less_laps : n * (q / n) ≤ n * (p / n) = mul-le-mul_left n ahead in
          omega (arith, first, second, less_laps, same))
    ]

-- the same, whichever is further on
pub apart_back : (n p q : ℕ) → 0 < n → p < q → q < p + n → q % n ≡ p % n → ⊥
apart_back n p q some less near same = apart n p q some less near (sym same)

pub length-with_slot : (slots : List Slot) (place : ℕ) (s : Slot) → length (with_slot slots place s) ≡ length slots
length-with_slot slots place s = length-set slots (place % length slots) s

-- what was written at a place stands there
pub slot-here : (slots : List Slot) (place : ℕ) (s : Slot) → 0 < length slots → slot_at (with_slot slots place s) place ≡ s
slot-here slots place s some =
    ap (λ (n : ℕ). get_or (set slots (place % length slots) s) (place % n) empty_slot) (length-with_slot slots place s)
    ∙ get_or-set_same slots (place % length slots) s empty_slot (mod-lt place some)

-- and what stands in other slots stays
pub slot-other : (slots : List Slot) (place p : ℕ) (s : Slot) → (p % length slots ≡ place % length slots → ⊥) → slot_at (with_slot slots place s) p ≡ slot_at slots p
slot-other slots place p s other =
    ap (λ (n : ℕ). get_or (set slots (place % length slots) s) (p % n) empty_slot) (length-with_slot slots place s)
    ∙ get_or-set_other slots (place % length slots) (p % length slots) s empty_slot other

-- a lap further on is the same slot
pub slot-lap : (slots : List Slot) (p : ℕ) → slot_at slots (p + length slots) ≡ slot_at slots p
slot-lap slots p = ap (λ (i : ℕ). get_or slots i empty_slot) (add-mod_right p (length slots))

either : (b : Bool) → (b ≡ true) ⊎ (b ≡ false)
either true = inl refl
either false = inr refl

flips : (k : ℕ) → ((k + 1) % 2 == 0) ≡ not (k % 2 == 0)
flips k = elim (cases_lt 0 (k % 2)) [
  | inl odd ↦
      (let here : k % 2 ≡ 1 = omega arith in
      let there : (k + 1) % 2 ≡ 0 = omega arith in
      ap (λ (j : ℕ). j == 0) there ∙ sym (ap (λ (j : ℕ). not (j == 0)) here))
  | inr even ↦
      (let here : k % 2 ≡ 0 = omega arith in
      let there : (k + 1) % 2 ≡ 1 = omega arith in
      ap (λ (j : ℕ). j == 0) there ∙ sym (ap (λ (j : ℕ). not (j == 0)) here))
]

-- and its wrap counter is the other one
pub wrap-lap : (n p : ℕ) → 0 < n → wrap_of n (p + n) ≡ not (wrap_of n p)
wrap-lap n p some = ap (λ (k : ℕ). k % 2 == 0) (add-div_right p some) ∙ flips (p / n)
