-- What a call on the outside takes and gives, where the object tells it, and when a call may fail.
use Rattle.std.specs.Prelude.{ℕ, ◌+◌, ◌-◌, ◌^◌, ◌≤◌, ◌≡◌, List, [], ◌++◌, length, take, drop, Option, Some, None, Result, min, IsErr}

-- the next n bytes were taken and stand at the front of the piece; none was left where n is 0
abbrev pub Pulled : ℕ → List ℕ → Option (List ℕ) → Option (List ℕ) → Type 0
Pulled n piece None new = new ≡ None
Pulled n piece (Some old) new = (new ≡ Some (drop n old)) × (take n old ≡ take n piece) × (n ≤ length old) × (n ≡ 0 → old ≡ [])

-- the first n bytes were appended
abbrev pub Pushed : ℕ → List ℕ → Option (List ℕ) → Option (List ℕ) → Type 0
Pushed n bytes None new = new ≡ None
Pushed n bytes (Some old) new = new ≡ Some (old ++ take n bytes)

-- the count rose, or stands at its last value
abbrev pub Rose : ℕ → ℕ → Type 0
Rose before now = min (before + 1) (2 ^ 64 - 1) ≤ now

-- the count of faults never falls, and the call failed only where it rose
pub record HasCause {T E : Type 0} (before now : ℕ) (result : Result T E) : Type 0 where
  pub later : before ≤ now
  pub failed : IsErr result → Rose before now
