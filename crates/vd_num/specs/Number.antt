-- Slots and alignments.
use Rattle.std.specs.Prelude.{ℕ, zero, suc, ◌+◌, ◌*◌, ◌/◌, ◌%◌, nat_le, nat_lt, ◌&&◌, Bool, if◌then◌else◌, min}

-- how many slots hold len bytes: the least n with len ≤ 4096 * n
abbrev pub pages_of : ℕ → ℕ
pages_of len = len / 4096 + min 1 (len % 4096)

-- the first of p, 2 * p, 4 * p and so on, k of them at most, that isn't below n
unfoldable pub doubled_to : ℕ → ℕ → ℕ → ℕ
doubled_to zero p n = p
doubled_to (suc k) p n = if nat_le n p then p else doubled_to k (2 * p) n

-- the least power of two that isn't below n, for n up to 2 to the 64th
unfoldable pub power_from : ℕ → ℕ
power_from n = doubled_to 64 1 n

-- the number lies among the len from `from` on
abbrev pub is_within : ℕ → ℕ → ℕ → Bool
is_within from len at = nat_le from at && nat_lt at (from + len)
