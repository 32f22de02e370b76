-- What is answered of a line.
use Rattle.std.specs.Prelude.{◌≡◌, ℕ, List, Option, Some, None, Result, Ok, Err}
use Rattle.vd_model.specs.declared.step.Step.{Step}
use Rattle.vd_model.specs.Reading.{reading}
use Rattle.vd_model.specs.Spelling.{spelling}
use Rattle.vd_words.specs.Gives.{Fails}
use Rattle.vd_words.specs.declared.error.LineError.{LineError}

-- the spelling of its step, which is read as that step again
abbrev pub Spells : Result (Option (List ℕ)) LineError → List ℕ → Type 0
Spells (Ok None) line = reading line ≡ Some None
Spells (Ok (Some text)) line = (step : Step) × (reading line ≡ Some (Some step)) × (text ≡ spelling step) × (reading text ≡ Some (Some step))
Spells (Err e) line = Fails e (reading line)
