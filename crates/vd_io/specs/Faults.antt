-- The calls on an object in memory, some of which are to fail.
use Rattle.std.specs.Prelude.{ℕ, ◌+◌, ◌-◌, ◌^◌, List, Bool, false, ◌==◌, nat_lt, if◌then◌else◌, Option, Some, None, min}
use Rattle.std.specs.List.{list_any}

pub record Calls : Type 0 where
  -- the numbers of the calls that are to fail
  pub fails : List ℕ
  -- the number of the next call; none once the numbers are used up
  pub next : Option ℕ
  -- how many calls failed, up to the last number
  pub failed : ℕ

-- no call was made yet
abbrev pub first_call : List ℕ → Calls
first_call fails = record { fails = fails; next = Some 0; failed = 0 }

-- the number is listed
abbrev pub is_listed : List ℕ → Option ℕ → Bool
is_listed fails None = false
is_listed fails (Some number) = list_any (λ n. n == number) fails

-- the next call is to fail
abbrev pub is_to_fail : Calls → Bool
is_to_fail calls = is_listed calls.fails calls.next

-- the number after this one
abbrev pub number_after : Option ℕ → Option ℕ
number_after None = None
number_after (Some number) = if nat_lt (number + 1) (2 ^ 64) then Some (number + 1) else None

-- one call more, which failed or not
abbrev pub after_call : Bool → Calls → Calls
after_call failed calls = record {
  fails = calls.fails;
  next = number_after calls.next;
  failed = (if failed then min (calls.failed + 1) (2 ^ 64 - 1) else calls.failed);
}
