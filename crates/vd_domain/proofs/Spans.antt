-- The pages that a range of slots meets, and ranges of bytes in pages.
use Rattle.std.proofs.Common.{◌≡◌, ℕ, zero, suc, ◌+◌, ◌-◌, ◌*◌, ◌/◌, ◌<◌, ◌≤◌, inl, inr, refl, ap, sym, ◌∙◌, arith, true, false, ◌&&◌, nat_le, nat_lt, List, [], ◌∷◌}
use Rattle.std.proofs.lemmas.Bool.Decides.{nat_tests, leb_tells}
use Rattle.std.proofs.Math.Nat.{mul-le-mul_left}
use Rattle.std.specs.List.{slice_index, slice_set}
use Rattle.vd_num.specs.Number.{is_within}
use Rattle.vd_domain.specs.Slots.{meets_slots}

-- a slot lies before the end of a page where its own page isn't a later one
before_end : (g a page : ℕ) → 0 < g → nat_lt a (g * page + g) ≡ nat_le (a / g) page
before_end g a page some = elim (leb_tells (a / g) page) [
  | inl upto ↦
      (let u = upto.1 in
      let more : g * (a / g) ≤ g * page = mul-le-mul_left g u in
      let low : a < g * page + g = omega arith in
      let yes : nat_lt a (g * page + g) ≡ true = grind (arith, nat_tests, low) in
      yes ∙ sym upto.0)
  | inr past ↦
      (let p : suc page ≤ a / g = (let q = past.1 in omega arith) in
      let more : g * suc page ≤ g * (a / g) = mul-le-mul_left g p in
      let high : g * page + g ≤ a = omega arith in
      let no : nat_lt a (g * page + g) ≡ false = grind (arith, nat_tests, high) in
      no ∙ sym past.0)
]

-- a page begins at a slot or before it where the slot's page isn't an earlier one
from_start : (g a page : ℕ) → 0 < g → nat_le (g * page) a ≡ nat_le page (a / g)
from_start g a page some = elim (leb_tells page (a / g)) [
  | inl upto ↦
      (let u = upto.1 in
      let more : g * page ≤ g * (a / g) = mul-le-mul_left g u in
      let low : g * page ≤ a = omega arith in
      let yes : nat_le (g * page) a ≡ true = grind (arith, nat_tests, low) in
      yes ∙ sym upto.0)
  | inr past ↦
      (let p : suc (a / g) ≤ page = (let q = past.1 in omega arith) in
      let more : g * suc (a / g) ≤ g * page = mul-le-mul_left g p in
      let high : a < g * page = omega arith in
      let no : nat_le (g * page) a ≡ false = grind (arith, nat_tests, high) in
      no ∙ sym past.0)
]

pub order_pages : (g a b : ℕ) → 0 < g → a ≤ b → a / g ≤ b / g
order_pages g a b some le = elim (leb_tells (a / g) (b / g)) [
  | inl upto ↦ upto.1
  | inr past ↦
      (let p : suc (b / g) ≤ a / g = (let q = past.1 in omega arith) in
      let more : g * suc (b / g) ≤ g * (a / g) = mul-le-mul_left g p in
      absurd (omega arith))
]

pub met : (g slot n page : ℕ) → 0 < g → 0 < n → is_within (slot / g) ((slot + n - 1) / g - slot / g + 1) page ≡ meets_slots g page slot n
met g slot n page some any =
    let order : slot / g ≤ (slot + n - 1) / g = order_pages g slot (slot + n - 1) some (omega arith) in
    by ((slot + n - 1) / g) (slot / g) order
    ∙ ap (λ b. nat_le page ((slot + n - 1) / g) && b) (sym (before_end g slot page some))
    ∙ ap (λ b. b && nat_lt slot (g * page + g)) (sym (from_start g (slot + n - 1) page some) ∙ last (g * page)) where
      by : (l f : ℕ) → f ≤ l → is_within f (l - f + 1) page ≡ (nat_le page l && nat_le f page)
      by l f order = grind (arith, nat_tests)

      last : (k : ℕ) → nat_le k (slot + n - 1) ≡ nat_lt k (slot + n)
      last k = grind (arith, nat_tests)

-- a count that was 0 is so again
pub set_back : (xs : List ℕ) (s n : ℕ) → slice_index xs s ≡ 0 → slice_set (slice_set xs s n) s 0 ≡ xs
set_back [] s n e = refl
set_back (x ∷ xs) zero n e = ap (λ y. y ∷ xs) (sym e)
set_back (x ∷ xs) (suc s) n e = ap (λ ys. x ∷ ys) (set_back xs s n e)
