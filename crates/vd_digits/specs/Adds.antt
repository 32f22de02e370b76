-- What is appended to a text.
use Rattle.std.specs.Prelude.{◌≡◌, ◌≤◌, ◌+◌, ◌++◌, ℕ, List, Vec, vec_len, vec_capacity}

-- these bytes were appended, at most so many, and nothing that was room is lost
pub record Adds {A : Type 0} (old new : Vec ℕ A) (bytes : List ℕ) (most : ℕ) : Type 0 where
  pub items : new.items ≡ old.items ++ bytes
  pub len : vec_len new ≤ vec_len old + most
  pub capacity : vec_capacity old ≤ vec_capacity new

-- there is room for so many more bytes
abbrev pub HasRoom : {A : Type 0} → ℕ → Vec ℕ A → Type 0
HasRoom n v = vec_len v + n ≤ vec_capacity v
