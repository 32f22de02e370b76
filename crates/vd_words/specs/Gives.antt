-- How a function's result is tied to what reading gives.
use Rattle.std.specs.Prelude.{◌≡◌, ℕ, List, Option, Some, None, Result, Ok, Err}
use Rattle.vd_words.specs.declared.error.LineError.{LineError}
use Rattle.vd_words.specs.declared.error.LineError.TheVariants.{Bad, Memory}
use Rattle.vd_model.specs.Fields.{Field}
use Rattle.vd_model.specs.Forms.{next_field, no_more_words}

-- Bad exactly where nothing is read, unless memory ran out.
abbrev pub Fails : {X : Type 0} → LineError → Option X → Type 0
Fails Memory read = Unit {0}
Fails Bad read = read ≡ None

abbrev pub Gives : {X : Type 0} → Result X LineError → Option X → Type 0
Gives (Ok x) read = read ≡ Some x
Gives (Err e) read = Fails e read

-- A call took the next word, and left the words after it.
abbrev pub Takes : {X : Type 0} → Field X → List (List ℕ) → Result X LineError → List (List ℕ) → Type 0
Takes f old (Ok x) new = next_field f old ≡ Some (x, new)
Takes f old (Err e) new = Fails e (next_field f old)

-- No word is left behind the step.
abbrev pub Ends : {S : Type 0} → S → List (List ℕ) → Result S LineError → Type 0
Ends s ws (Ok r) = (r ≡ s) × (no_more_words s ws ≡ Some s)
Ends s ws (Err e) = (e ≡ Bad) × (no_more_words s ws ≡ None)
