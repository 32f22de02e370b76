-- Ranges of numbers.
use Rattle.std.proofs.Common.{◌≡◌, ℕ, ◌+◌, ◌<◌, ◌≤◌, true, false, nat_le, nat_lt}
use Rattle.std.proofs.lemmas.Bool.{lt-ltb, le-ltb, lt-leb, le-leb, leb-true, ltb-true, and_parts, and_from, and_left, and_right}
use Rattle.vd_num.specs.Number.{is_within}

pub is_in : (from len at : ℕ) → is_within from len at ≡ true → (from ≤ at) × (at < from + len)
is_in from len at h = let p = and_parts (nat_le from at) (nat_lt at (from + len)) h in (leb-true from at p.0, ltb-true at (from + len) p.1)

pub in_range : (from len at : ℕ) → from ≤ at → at < from + len → is_within from len at ≡ true
in_range from len at low high = and_from (nat_le from at) (nat_lt at (from + len)) (le-leb from at low) (lt-ltb at (from + len) high)

pub past_range : (from len at : ℕ) → from + len ≤ at → is_within from len at ≡ false
past_range from len at high = and_right (nat_le from at) (nat_lt at (from + len)) (le-ltb at (from + len) high)

pub before_range : (from len at : ℕ) → at < from → is_within from len at ≡ false
before_range from len at low = and_left (nat_le from at) (nat_lt at (from + len)) (lt-leb from at low)
