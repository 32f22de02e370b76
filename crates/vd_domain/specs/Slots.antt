-- Which pages a range of slots meets.
use Rattle.std.specs.Prelude.{ℕ, ◌+◌, ◌*◌, Bool, nat_lt, ◌&&◌}

-- one of the n slots from this one on lies in the page, where a page has g slots
abbrev pub meets_slots : ℕ → ℕ → ℕ → ℕ → Bool
meets_slots g page slot n = nat_lt (g * page) (slot + n) && nat_lt slot (g * page + g)
