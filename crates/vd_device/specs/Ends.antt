-- What the end of a message does beside its being taken.
use Rattle.std.specs.Prelude.{ℕ, ◌==◌, List, [], ◌∷◌, if◌then◌else◌}
use Rattle.vd_model.specs.declared.message.Body.{Body}
use Rattle.vd_model.specs.declared.message.Body.TheVariants as body
use Rattle.vd_model.specs.declared.answer.Item.{Item}
use Rattle.vd_model.specs.declared.answer.Item.TheVariants.{Word, Number}
use Rattle.vd_model.specs.declared.answer.Tag.TheVariants.{Avail}
use Rattle.vd_model.specs.Acts.{Act, State}
use Rattle.vd_model.specs.State.{Status_set, Cleared}
use Rattle.vd_model.specs.BusTurns.{asks_reset}

-- a reset that failed resets the device too
abbrev pub failed_acts : Body → List Act
failed_acts body = if asks_reset body then State Cleared ∷ [] else []

-- a status that was set is stored
abbrev pub done_acts : Body → List Act
done_acts (body.Status value) = if value == 0 then State Cleared ∷ [] else State (Status_set value) ∷ []
done_acts _ = []

-- a queue's available index is told
abbrev pub end_items : Body → ℕ → List Item
end_items (body.VqState index) avail = Word Avail ∷ Number avail ∷ []
end_items _ avail = []
