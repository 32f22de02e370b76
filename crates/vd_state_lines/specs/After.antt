-- The state of a device before and after a line.
use Rattle.std.specs.Prelude.{◌≡◌, ◌++◌, List, Bool, true, false}
use Rattle.std.specs.List.{list_all}
use Rattle.vd_model.specs.Creation.{Creation}
use Rattle.vd_model.specs.Acts.{Act, State, state_acts}
use Rattle.vd_model.specs.State.{Cleared}
use Rattle.vd_model.specs.BusTurns.{shape_of}
use Rattle.vd_state.specs.Kept.{Kept}
use Rattle.vd_state.specs.Stands.{Stands}

-- the state stands for a device's acts
abbrev pub StateBefore : Creation → List Act → Kept → Type 0
StateBefore made done s = Stands (shape_of made) (state_acts done) s

-- an act on the state, but a reset
abbrev pub is_state_act : Act → Bool
is_state_act (State Cleared) = false
is_state_act (State act) = true
is_state_act _ = false

-- the state stands for these acts too, all of which are on it
pub record StateAfter (made : Creation) (done : List Act) (s : Kept) (acts : List Act) : Type 0 where
  pub only : list_all is_state_act acts ≡ true
  pub stands : Stands (shape_of made) (state_acts (acts ++ done)) s
