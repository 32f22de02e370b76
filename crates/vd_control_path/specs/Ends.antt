-- How often the block daemon's position on a queue ended.
use Rattle.std.specs.Prelude.{ℕ, ◌+◌, List, [], ◌∷◌}
use Rattle.vd_model.specs.Acts.{Act, Node, Closed, state_acts}
use Rattle.vd_state.specs.Stands.{generation_of}

-- how many sessions ended
abbrev pub closings_of : List Act → ℕ
closings_of [] = 0
closings_of (Node Closed ∷ acts) = closings_of acts + 1
closings_of (_ ∷ acts) = closings_of acts

-- it ended with each session, and each time that what the queue describes was set anew or cleared
abbrev pub ends_of : List Act → ℕ → ℕ
ends_of acts q = closings_of acts + generation_of (state_acts acts) q
