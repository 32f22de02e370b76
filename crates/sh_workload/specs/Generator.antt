-- The numbers that requests are drawn from: a linear congruential generator of 64 bits, of which each draw takes the upper 31.
use Rattle.std.specs.Prelude.{ℕ, ◌+◌, ◌*◌, ◌/◌, ◌%◌, ◌^◌}

abbrev pub first_state : ℕ → ℕ → ℕ
first_state start driver = (start + driver) % 2 ^ 64

abbrev pub stepped : ℕ → ℕ
stepped x = (x * 6364136223846793005 + 1442695040888963407) % 2 ^ 64

-- what is drawn at a state
abbrev pub drawn : ℕ → ℕ
drawn x = x / 2 ^ 33
