-- What a load and a store of a memory answer, and what they leave.
use Rattle.std.specs.Prelude.{ℕ, ◌≡◌, ◌+◌, ◌≤◌, List, length, Option, Some, None, Result, Ok, Err, IsOk}
use Rattle.std.specs.Option.{ForSome}
use Rattle.vd_num.specs.declared.number.Bus.{Bus}
use Rattle.vd_num.specs.declared.number.Range.{Range}
use Rattle.vd_model.specs.Memory.{Memory, read, written}
use Rattle.vd_model.specs.Rings.{number16}

-- a load of n bytes gives them, or the first address at which none stands
abbrev pub Loads : Memory → ℕ → ℕ → Result (Unit {0}) Bus → List ℕ → Type 0
Loads m at n (Ok _) bytes = read m at n ≡ Ok bytes
Loads m at n (Err bus) bytes = read m at n ≡ Err bus.at

-- a load of two bytes gives their number, or the first address at which none stands
abbrev pub LoadsNumber : Memory → ℕ → Result ℕ Bus → Type 0
LoadsNumber m at (Ok value) = number16 m at ≡ Ok value
LoadsNumber m at (Err bus) = number16 m at ≡ Err bus.at

-- a store leaves these bytes there, or answers the first address at which none stands and changes nothing
abbrev pub Stores : Memory → ℕ → List ℕ → Result (Unit {0}) Bus → Option Memory → Type 0
Stores m at bytes (Ok _) new = IsOk (read m at (length bytes)) × (new ≡ Some (written m at bytes))
Stores m at bytes (Err bus) new = (read m at (length bytes) ≡ Err bus.at) × (new ≡ Some m)

-- n addresses are in the span
abbrev pub InSpan : Option Range → ℕ → ℕ → Type 0
InSpan None at n = ⊥
InSpan (Some span) at n = (span.start ≤ at) × (at + n ≤ span.last + 1)

-- after calls that only load: the same map and the same span are told, and what each call keeps is kept
pub record IsUnchanged {S : Type 0} (told : S → Option Memory) (span : S → Option Range) (keeps : S → S → Type 0) (old new : S) : Type 0 where
  pub same_told : told new ≡ told old
  pub same_span : span new ≡ span old
  pub kept : keeps old new

-- the map that is told, if one is, becomes f of it
abbrev pub Becomes : {S : Type 0} → (S → Option Memory) → S → S → (Memory → Memory) → Type 0
Becomes told old new f = ForSome (told old) (λ m. told new ≡ Some (f m))
