-- Numbers from one on.
use Rattle.std.proofs.Common.{◌≡◌, ℕ, zero, suc, ◌+◌, ◌-◌, ◌≤◌, ◌<◌, ◌==◌, ◌&&◌, ◌||◌, nat_lt, true, false, ap, sym, ◌∙◌, arith}
use Rattle.std.specs.Prelude.{nat_le}
use Rattle.std.specs.List.{list_any}
use Rattle.std.proofs.lemmas.Bool.Decides.{nat_tests}
use Rattle.blk_driver.specs.Driver.{numbers_from}

first_or_later : (number first n : ℕ) → ((first == number) || (nat_le (first + 1) number && nat_lt number (first + 1 + n))) ≡ (nat_le first number && nat_lt number (first + suc n))
first_or_later number first n = grind (arith, nat_tests)

pub is_among : (number first n : ℕ) → list_any (λ m. m == number) (numbers_from first n) ≡ (nat_le first number && nat_lt number (first + n))
is_among number first zero = grind (arith, nat_tests)
is_among number first (suc n) = ap (λ b. (first == number) || b) (is_among number (first + 1) n) ∙ first_or_later number first n

-- the same by the number after them
pub is_within : (number first end : ℕ) → (nat_le first number && nat_lt number end) ≡ list_any (λ m. m == number) (numbers_from first (end - first))
is_within number first end = (let e : (nat_le first number && nat_lt number end) ≡ (nat_le first number && nat_lt number (first + (end - first))) = grind (arith, nat_tests) in e) ∙ sym (is_among number first (end - first))

pub is_low : (number first end : ℕ) → first ≤ number → nat_lt number end ≡ list_any (λ m. m == number) (numbers_from first (end - first))
is_low number first end le = let low : nat_le first number ≡ true = grind (arith, nat_tests) in sym (ap (λ b. b && nat_lt number end) low) ∙ is_within number first end

pub is_lower : (number first end : ℕ) → number < first → nat_le first number ≡ list_any (λ m. m == number) (numbers_from first (end - first))
is_lower number first end lt = let low : nat_le first number ≡ false = grind (arith, nat_tests) in
    low ∙ sym (ap (λ b. b && nat_lt number end) low) ∙ is_within number first end
