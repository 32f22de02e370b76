-- Reading a number of so few digits that it fits 64 bits.
use Rattle.std.proofs.Common.{ℕ, suc, ◌+◌, ◌*◌, ◌^◌, ◌<◌, ◌≤◌, arith, add-one}
use Rattle.std.proofs.Math.Nat.{pow-succ', pow-le-pow_left, pow-le-pow_right, mul-le-mul_left}

pub few_fit : (radix count : ℕ) → radix ≤ 16 → count ≤ 16 → radix ^ count ≤ 2 ^ 64
few_fit radix count small few =
    let base : radix ^ count ≤ 16 ^ count = pow-le-pow_left small count in
    let longest : 16 ^ count ≤ 16 ^ 16 = pow-le-pow_right (omega arith) few in
    omega (arith, base, longest)

-- one digit more
pub one_more_below : (radix n i d : ℕ) → n < radix ^ i → d < radix → n * radix + d < radix ^ (i + 1)
one_more_below radix n i d below digit =
    let scaled : radix * suc n ≤ radix * radix ^ i = mul-le-mul_left radix below in
    let power = pow-succ' radix i in
    rw add-one (omega (arith, scaled, power))

pub fits : (radix n i d count : ℕ) → 2 ≤ radix → radix ≤ 16 → count ≤ 16 → i < count → n < radix ^ i → d < radix → n * radix + d < 2 ^ 64
fits radix n i d count low small few lt below digit =
    let more = one_more_below radix n i d below digit in
    let power : radix ^ (i + 1) ≤ 2 ^ 64 = few_fit radix (i + 1) small (omega (arith, lt, few)) in
    omega (arith, more, power)
