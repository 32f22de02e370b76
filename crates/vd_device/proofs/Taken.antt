-- The end of a message.
use Rattle.std.proofs.Common.{◌≡◌, ℕ, true, false, refl, ap, subst, sym, ◌∙◌, List, [], ◌∷◌, ◌++◌, ◌==◌, if◌then◌else◌, append_assoc, true≢false}
use Rattle.vd_pool.specs.Memory.{PoolMemory as Pool}
use Rattle.vd_model.specs.declared.message.Body.{Body}
use Rattle.vd_model.specs.declared.message.Body.TheVariants as body
use Rattle.vd_model.specs.declared.message.TakeAnswer.{TakeAnswer}
use Rattle.vd_model.specs.declared.answer.Answer.TheVariants.{Done}
use Rattle.vd_model.specs.Setting.{Setting}
use Rattle.vd_model.specs.Creation.{Creation}
use Rattle.vd_model.specs.Acts.{Act, Message_act, State, message_acts}
use Rattle.vd_model.specs.Messages.{MessageAct, Took, take_acts, message_told}
use Rattle.vd_model.specs.State.{Status_set, Cleared}
use Rattle.vd_model.specs.BusTurns.{device_start, done_turn, message_end_acts, asks_reset, shape_of}
use Rattle.vd_model.specs.Acts.{state_acts}
use Rattle.vd_msg.specs.Lists.{Lists}
use Rattle.vd_msg.specs.Stands as messages
use Rattle.vd_state.specs.Kept.{Kept}
use Rattle.vd_state.specs.Stands as state
use Rattle.vd_control_path.specs.declared.path.ControlPath.{ControlPath}
use Rattle.vd_control_path.proofs.Parts.{message_line as message_path, state_line as state_path}
use Rattle.vd_device.specs.declared.device.Device.{Device}
use Rattle.vd_device.specs.Stands.{Stands}
use Rattle.vd_device.specs.Ends.{done_acts, failed_acts, end_items}
use Rattle.vd_device.proofs.Parts.{path_line}

-- it was taken
pub took : {x : Setting} {made : Creation} {acts : List Act} {d : Device} {m : Pool} (l : Lists) (id : ℕ) → Stands x made acts d m → messages.Stands device_start (Took id ∷ message_acts acts) l
    → Stands x made (Message_act (Took id) ∷ acts) (record d { path = record d.path { messages = l } }) m
took {x} {made} {acts} {d} {m} l id s makes = path_line (record d.path { messages = l }) (Message_act (Took id) ∷ []) s (message_path l (Message_act (Took id) ∷ []) s.path (record { only = refl; stands = makes }))

-- nothing was
pub left : {x : Setting} {made : Creation} {acts : List Act} {d : Device} {m : Pool} (l : Lists) → Stands x made acts d m → messages.Stands device_start (message_acts acts) l
    → Stands x made acts (record d { path = record d.path { messages = l } }) m
left {x} {made} {acts} {d} {m} l s makes = path_line (record d.path { messages = l }) [] s (message_path l [] s.path (record { only = refl; stands = makes }))

-- a status was stored
pub stored : {x : Setting} {made : Creation} {acts : List Act} {d : Device} {m : Pool} (k : Kept) (value : ℕ) → Stands x made acts d m
    → state.Stands (shape_of made) (Status_set value ∷ state_acts acts) k → Stands x made (State (Status_set value) ∷ acts) (record d { path = record d.path { state = k } }) m
stored {x} {made} {acts} {d} {m} k value s h = path_line (record d.path { state = k }) (State (Status_set value) ∷ []) s (state_path k (State (Status_set value) ∷ []) s.path (record { only = refl; stands = h }))

-- a call that tells a final end has taken it
pub took_by : {x : Setting} {made : Creation} {acts : List Act} {d : Device} {m : Pool} (l : Lists) (id : ℕ) (t : TakeAnswer) → t ≡ message_told (message_acts acts) id → take_acts t id ≡ Took id ∷ [] → Stands x made acts d m
    → messages.Stands device_start (take_acts (message_told (message_acts acts) id) id ++ message_acts acts) l → Stands x made (Message_act (Took id) ∷ acts) (record d { path = record d.path { messages = l } }) m
took_by {x} {made} {acts} {d} {m} l id t says final s makes =
    took l id s (subst (λ (made : List MessageAct). messages.Stands device_start (made ++ message_acts acts) l) (ap (λ t. take_acts t id) (sym says) ∙ final) makes)

-- one that tells none has taken nothing
pub left_by : {x : Setting} {made : Creation} {acts : List Act} {d : Device} {m : Pool} (l : Lists) (id : ℕ) (t : TakeAnswer) → t ≡ message_told (message_acts acts) id → take_acts t id ≡ [] → Stands x made acts d m
    → messages.Stands device_start (take_acts (message_told (message_acts acts) id) id ++ message_acts acts) l → Stands x made acts (record d { path = record d.path { messages = l } }) m
left_by {x} {made} {acts} {d} {m} l id t says none s makes =
    left l s (subst (λ (made : List MessageAct). messages.Stands device_start (made ++ message_acts acts) l) (ap (λ t. take_acts t id) (sym says) ∙ none) makes)

-- ---- the acts of a turn

pub done_is : (id : ℕ) (b : Body) (avail : ℕ) (acts : List Act) → (done_turn id b avail).acts ++ acts ≡ done_acts b ++ Message_act (Took id) ∷ acts
done_is id (body.Status value) avail acts = append_assoc (if value == 0 then State Cleared ∷ [] else State (Status_set value) ∷ []) (Message_act (Took id) ∷ []) acts
done_is id (body.VqState index) avail acts = refl
done_is id (body.Iotlb range) avail acts = refl

pub failed_is : (id : ℕ) (b : Body) (acts : List Act) → message_end_acts id b [] ++ acts ≡ failed_acts b ++ Message_act (Took id) ∷ acts
failed_is id b acts = append_assoc (failed_acts b) (Message_act (Took id) ∷ []) acts

pub done_says : (id : ℕ) (b : Body) (avail : ℕ) → Done (end_items b avail) ≡ (done_turn id b avail).answer
done_says id (body.Status value) avail = refl
done_says id (body.VqState index) avail = refl
done_says id (body.Iotlb range) avail = refl

-- ---- what an end does

pub failed_none : (b : Body) → asks_reset b ≡ false → failed_acts b ≡ []
failed_none b e = ap (λ t. if t then State Cleared ∷ [] else []) e

pub failed_some : (b : Body) → asks_reset b ≡ true → failed_acts b ≡ State Cleared ∷ []
failed_some b e = ap (λ t. if t then State Cleared ∷ [] else []) e

pub done_some : (b : Body) → asks_reset b ≡ true → done_acts b ≡ State Cleared ∷ []
done_some (body.Status value) e = ap (λ t. if t then State Cleared ∷ [] else State (Status_set value) ∷ []) e
done_some (body.VqState index) e = absurd (true≢false (sym e))
done_some (body.Iotlb range) e = absurd (true≢false (sym e))

pub done_status : (value : ℕ) → asks_reset (body.Status value) ≡ false → done_acts (body.Status value) ≡ State (Status_set value) ∷ []
done_status value e = ap (λ t. if t then State Cleared ∷ [] else State (Status_set value) ∷ []) e
