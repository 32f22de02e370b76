-- What was written, where a sink tells it.
use Rattle.std.specs.Prelude.{ℕ, ◌≡◌, List, ◌++◌, Option, Some, None}

-- new holds these bytes more than old
abbrev pub Appended : Option (List ℕ) → Option (List ℕ) → List ℕ → Type 0
Appended None new bytes = Unit {0}
Appended (Some base) new bytes = new ≡ Some (base ++ bytes)
