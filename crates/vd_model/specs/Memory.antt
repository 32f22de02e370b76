-- Memory as a map from address to byte.
use Rattle.std.specs.Prelude.{ℕ, zero, suc, ◌≡◌, ◌+◌, ◌-◌, ◌<◌, ◌^◌, ◌&&◌, nat_lt, nat_le, if◌then◌else◌, List, [], ◌∷◌, length, slice_get, Option, Some, None, Result, Ok, Err}

-- what stands at an address, if anything does
abbrev pub Memory : Type 0
Memory = ℕ → Option ℕ

-- no byte stands from 2 ^ 32 on, so there are finitely many
abbrev pub IsFinite : Memory → Type 0
IsFinite m = (a b : ℕ) → m a ≡ Some b → a < 2 ^ 32

-- the byte at an address, in front of those after it
abbrev pub byte_then : ℕ → Option ℕ → Result (List ℕ) ℕ → Result (List ℕ) ℕ
byte_then at None rest = Err at
byte_then at (Some b) (Ok bytes) = Ok (b ∷ bytes)
byte_then at (Some b) (Err address) = Err address

-- the n bytes from an address on, or the first of these addresses at which none stands
unfoldable pub read : Memory → ℕ → ℕ → Result (List ℕ) ℕ
read m at zero = Ok []
read m at (suc n) = byte_then at (m at) (read m (at + 1) n)

-- the map with these bytes from an address on
abbrev pub written : Memory → ℕ → List ℕ → Memory
written m at bytes a = if nat_le at a && nat_lt a (at + length bytes) then slice_get bytes (a - at) else m a

-- the bytes of a list, from a base address on
abbrev pub bytes_from : ℕ → List ℕ → Memory
bytes_from base bytes a = if nat_le base a then slice_get bytes (a - base) else None
