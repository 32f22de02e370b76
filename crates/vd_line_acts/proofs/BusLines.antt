-- Which acts the lines of the bus make.
use Rattle.std.proofs.Common.{◌≡◌, ℕ, Bool, true, false, refl, Option, List, [], ◌∷◌, ◌++◌, if◌then◌else◌}
use Rattle.std.specs.List.{list_all}
use Rattle.vd_num.specs.declared.errno.Errno.{Errno}
use Rattle.vd_num.specs.declared.errno.Errno.TheVariants.{Io}
use Rattle.vd_model.specs.declared.answer.Answer.TheVariants as answer
use Rattle.vd_model.specs.declared.message.Body.{Body}
use Rattle.vd_model.specs.declared.message.Body.TheVariants as body
use Rattle.vd_model.specs.declared.message.TakeAnswer.{TakeAnswer}
use Rattle.vd_model.specs.declared.message.TakeAnswer.TheVariants as end
use Rattle.vd_model.specs.declared.step.BusStep.{BusStep}
use Rattle.vd_model.specs.declared.step.BusStep.TheVariants as bus
use Rattle.vd_model.specs.Creation.{Creation}
use Rattle.vd_model.specs.Acts.{Act, Message_act, State, message_acts}
use Rattle.vd_model.specs.State.{Status_set, Cleared}
use Rattle.vd_model.specs.Messages.{Took, is_broken, message_told}
use Rattle.vd_model.specs.Turn.{Turn, refuse}
use Rattle.vd_model.specs.BusTurns.{asks_reset, message_end_acts, take_turn, send_turn, reset_turn, attached_turn, bus_turn}
use Rattle.vd_line_acts.specs.LineActs.{is_bus_line_act}
use Rattle.vd_line_acts.proofs.Passing.{Passes, append_passes, refuse_passes}

abbrev IsBus : Turn Act → Type 0
IsBus turn = Passes is_bus_line_act turn

refuse_bus : (o : Option Errno) (turn : Turn Act) → IsBus turn → IsBus (refuse o turn)
refuse_bus = refuse_passes is_bus_line_act

message_end_passes : (id : ℕ) (b : Body) (more : List Act) → list_all is_bus_line_act more ≡ true → list_all is_bus_line_act (message_end_acts id b more) ≡ true
message_end_passes id b more e = by (asks_reset b) where
  by : (c : Bool) → list_all is_bus_line_act ((if c then State Cleared ∷ [] else more) ++ Message_act (Took id) ∷ []) ≡ true
  by true = refl
  by false = append_passes is_bus_line_act more (Message_act (Took id) ∷ []) e refl

take_acts : (id : ℕ) (t : TakeAnswer) → IsBus (take_turn id t)
take_acts id end.Pending = refl
take_acts id end.Unknown = refl
take_acts id (end.Done (body.Status value) avail) = message_end_passes id (body.Status value) (State (Status_set value) ∷ []) refl
take_acts id (end.Done (body.VqState index) avail) = refl
take_acts id (end.Done (body.Iotlb range) avail) = refl
take_acts id (end.FailedByReply b result) = message_end_passes id b [] refl
take_acts id (end.FailedByTimeout b deadline now) = message_end_passes id b [] refl

reset_acts : (now : ℕ) (done : List Act) → IsBus (reset_turn now done)
reset_acts now done = by (is_broken (message_acts done)) where
  by : (b : Bool) → IsBus (if b then record { answer = answer.Err Io; acts = State Cleared ∷ [] } else send_turn now done (body.Status 0))
  by true = refl
  by false = search refuse_bus

attached_acts : (made : Creation) (now : ℕ) (done : List Act) (step : BusStep) → IsBus (attached_turn made now done step)
attached_acts made now done bus.Attach = search refuse_bus
attached_acts made now done bus.Detach = search refuse_bus
attached_acts made now done bus.Offered = refl
attached_acts made now done (bus.SetFeatures features) = search refuse_bus
attached_acts made now done bus.GetStatus = refl
attached_acts made now done (bus.SetStatus status) = search refuse_bus
attached_acts made now done bus.Reset = reset_acts now done
attached_acts made now done (bus.VqNum queue num) = search refuse_bus
attached_acts made now done (bus.VqAddr queue desc driver device) = search refuse_bus
attached_acts made now done (bus.VqReady queue flag) = search refuse_bus
attached_acts made now done (bus.SetVqState queue avail) = search refuse_bus
attached_acts made now done (bus.GetVqState queue) = search refuse_bus
attached_acts made now done (bus.Kick queue) = search refuse_bus
attached_acts made now done (bus.Callback on flag) = search refuse_bus
attached_acts made now done (bus.Irqs on) = search refuse_bus
attached_acts made now done (bus.GetConfig offset len) = search refuse_bus
attached_acts made now done (bus.Timeout seconds) = refl
attached_acts made now done (bus.Take id) = take_acts id (message_told (message_acts done) id)

pub bus_line : (made : Creation) (now : ℕ) (done : List Act) (step : BusStep) → IsBus (bus_turn made now done step)
bus_line made now done step = search (refuse_bus, attached_acts)
