-- The lines of a script that ask for an execute, which alone touch the image, and those at which the image failed.
use Rattle.std.specs.Prelude.{ℕ, zero, suc, ◌<◌, ◌≤◌, ◌≡◌, List, [], ◌∷◌, ◌++◌, Bool, true, false, Option, Some, slice_get, min, ◌+◌, ◌-◌, ◌^◌}
use Rattle.std.specs.List.{list_any}
use Rattle.std.specs.Option.{option_map_or}
use Rattle.vd_model.specs.declared.step.Step.{Step}
use Rattle.vd_model.specs.Reading.{reading}
use Rattle.vd_output.specs.Out.{good_lines, has_failed}
use Rattle.vd_engine.specs.Frugal.{is_execution}

-- a line that says this asks for an execute
abbrev pub asks_execution : Option (Option Step) → Bool
asks_execution (Some (Some step)) = is_execution step
asks_execution _ = false

abbrev pub is_execute_line : List ℕ → Bool
is_execute_line line = asks_execution (reading line)

-- one of these lines does
abbrev pub any_executes : List (List ℕ) → Bool
any_executes lines = list_any is_execute_line lines

-- one of the lines before the one that stops the run does
abbrev pub executes : List ℕ → Bool
executes text = any_executes (good_lines text)

-- line n of these does, counted from 1
abbrev pub is_execute_at : List (List ℕ) → ℕ → Bool
is_execute_at lines zero = false
is_execute_at lines (suc k) = option_map_or is_execute_line (slice_get lines k) false

-- numbers of executes among these lines, in their order
pub record AreFailures (lines : List (List ℕ)) (failures : List ℕ) : Type 0 where
  pub each : (n : ℕ) → has_failed failures n ≡ true → is_execute_at lines n ≡ true
  pub ascending : (i j a b : ℕ) → i < j → slice_get failures i ≡ Some a → slice_get failures j ≡ Some b → a < b

-- none of these numbers is above that of the last of so many lines
abbrev pub AreUpTo : ℕ → List ℕ → Type 0
AreUpTo last failures = (n : ℕ) → has_failed failures n ≡ true → n ≤ last

-- the numbers of the lines at which the image failed, with line n where it failed there
abbrev pub failed_more : Bool → ℕ → List ℕ → List ℕ
failed_more true n failures = failures ++ n ∷ []
failed_more false n failures = failures

-- the count rose by so many at least, or stands at its last value
abbrev pub RoseBy : ℕ → ℕ → ℕ → Type 0
RoseBy n before now = min (before + n) (2 ^ 64 - 1) ≤ now
