-- Little-endian fields in a list of bytes.
use Rattle.std.specs.Prelude.{ℕ, ◌++◌, List, take, drop}
use Rattle.byteorder.specs.Endian.{little_number, little_bytes}

-- the number in the n bytes from `at` on, the lowest byte first
abbrev pub field_at : ℕ → List ℕ → ℕ → ℕ
field_at n bytes at = little_number n (drop at bytes)

-- the bytes with the n from `at` on replaced by those of the value, the lowest first
abbrev pub with_field : ℕ → List ℕ → ℕ → ℕ → List ℕ
with_field n bytes at value = take at bytes ++ (little_bytes n value ++ drop n (drop at bytes))
