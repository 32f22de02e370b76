-- The lines of the bus: attachment, status, features, queues, kicks, interrupts, and the ends of messages.
use Rattle.std.specs.Prelude.{ℕ, ◌+◌, List, [], ◌∷◌, ◌++◌, length, take, drop, Bool, true, false, ◌==◌, nat_lt, ◌&&◌, ◌||◌, not, if◌then◌else◌, slice_range}
use Rattle.vd_num.specs.declared.errno.Errno.{Errno}
use Rattle.vd_num.specs.declared.errno.Errno.TheVariants.{Noent, Io, Busy, Exist, Nodev, Inval, Nospc}
use Rattle.vd_model.specs.declared.message.Body.{Body}
use Rattle.vd_model.specs.declared.message.Body.TheVariants as body
use Rattle.vd_model.specs.declared.message.TakeAnswer.{TakeAnswer}
use Rattle.vd_model.specs.declared.message.TakeAnswer.TheVariants as end
use Rattle.vd_model.specs.declared.step.QueueOrConfig.{QueueOrConfig}
use Rattle.vd_model.specs.declared.step.BusStep.{BusStep}
use Rattle.vd_model.specs.declared.step.BusStep.TheVariants as bus
use Rattle.vd_model.specs.declared.answer.Tag.TheVariants.{Id, Avail}
use Rattle.vd_model.specs.declared.answer.Item.TheVariants.{Word, Number, Address, Text}
use Rattle.vd_model.specs.declared.answer.Answer.{Answer}
use Rattle.vd_model.specs.declared.answer.Answer.TheVariants.{Done, Err, Pending, FailedReply, FailedTimeout}
use Rattle.vd_model.specs.Creation.{Creation}
use Rattle.vd_model.specs.Acts.{Act, Node, Bus, Message_act, State, Config_put, Attached, Detached, message_acts, state_acts}
use Rattle.vd_model.specs.Messages.{MessageAct, Timed, Sent, Took, MessageStart, next_id, message_of, is_broken, message_told, untaken, id_limit}
use Rattle.vd_model.specs.State.{StateAct, Status_set, Features_set, Num_set, Addr_set, Ready_set, Avail_set, Kicked, Callback_set, Interrupts_taken, Cleared, DeviceShape, is_queue, may_accept, may_have, are_aligned, are_set_up, is_queue_or_config, device_status, max_of, interrupts_of}
use Rattle.vd_model.specs.Live.{is_attached, live_mappings, live_regions}
use Rattle.vd_model.specs.Turn.{Turn, refusal_turn, done_with, refuse, refusal_if}

-- a device's messages have ids from 0 on, and 30 seconds until another timeout is set
abbrev pub device_start : MessageStart
device_start = record { timeout = 30; first = 0 }

-- what a creation fixes of the state
abbrev pub shape_of : Creation → DeviceShape
shape_of made = record { queues = made.queues; offered = made.features }

-- the device has no such queue
abbrev pub is_missing : Creation → ℕ → Bool
is_missing made q = not (is_queue (shape_of made) q)

-- ---- the bus

-- a device may be attached once each of its queues has a largest size
abbrev pub attach_turn : Creation → List Act → Turn Act
attach_turn made done =
    refuse (refusal_if (not (are_set_up (state_acts done) made.queues)) Inval)
    (refuse (refusal_if (is_attached done) Exist)
    (done_with [] (Bus Attached ∷ [])))

-- something of the driver's is left: a mapping, a coherent region, or a message that wasn't taken
abbrev pub is_busy : List Act → Bool
is_busy done = nat_lt 0 (length (live_mappings done)) || nat_lt 0 (length (live_regions done)) || nat_lt 0 (untaken (message_acts done))

abbrev pub detach_turn : List Act → Turn Act
detach_turn done = refuse (refusal_if (is_busy done) Busy) (done_with [] (State Cleared ∷ Bus Detached ∷ []))

-- ---- messages

-- a message is sent, unless the device is broken or no id is left
abbrev pub send_turn : ℕ → List Act → Body → Turn Act
send_turn now done body =
    refuse (refusal_if (is_broken (message_acts done)) Io)
    (refuse (refusal_if (next_id device_start (message_acts done) == id_limit) Nospc)
    (done_with (Word Id ∷ Number (next_id device_start (message_acts done)) ∷ [])
    (Message_act (Sent (message_of device_start (message_acts done) body now)) ∷ [])))

-- a reset is a message of the status 0; on a broken device it is refused, and then done at once
abbrev pub reset_turn : ℕ → List Act → Turn Act
reset_turn now done =
    if is_broken (message_acts done)
    then record { answer = Err Io; acts = State Cleared ∷ [] }
    else send_turn now done (body.Status 0)

-- a reset was asked for
abbrev pub asks_reset : Body → Bool
asks_reset (body.Status value) = value == 0
asks_reset _ = false

-- the end of a message is taken; that of a reset resets the device, however it ends
abbrev pub message_end_acts : ℕ → Body → List Act → List Act
message_end_acts id body more = (if asks_reset body then State Cleared ∷ [] else more) ++ Message_act (Took id) ∷ []

-- a status that was set is stored, and a queue's available index is told
abbrev pub done_turn : ℕ → Body → ℕ → Turn Act
done_turn id (body.Status value) avail = done_with [] (message_end_acts id (body.Status value) (State (Status_set value) ∷ []))
done_turn id (body.VqState index) avail = done_with (Word Avail ∷ Number avail ∷ []) (message_end_acts id (body.VqState index) [])
done_turn id (body.Iotlb range) avail = done_with [] (message_end_acts id (body.Iotlb range) [])

abbrev pub take_turn : ℕ → TakeAnswer → Turn Act
take_turn id end.Pending = record { answer = Pending; acts = [] }
take_turn id end.Unknown = refusal_turn Noent
take_turn id (end.Done body avail) = done_turn id body avail
take_turn id (end.FailedByReply body result) = record { answer = FailedReply result; acts = message_end_acts id body [] }
take_turn id (end.FailedByTimeout body deadline now) = record { answer = FailedTimeout deadline now; acts = message_end_acts id body [] }

-- ---- features and queues

abbrev pub setfeatures_turn : Creation → ℕ → Turn Act
setfeatures_turn made features =
    refuse (refusal_if (not (may_accept (shape_of made) features)) Inval)
    (done_with [] (State (Features_set features) ∷ []))

abbrev pub vqnum_turn : Creation → List StateAct → ℕ → ℕ → Turn Act
vqnum_turn made state q num =
    refuse (refusal_if (is_missing made q) Inval)
    (refuse (refusal_if (not (may_have (max_of state q) num)) Inval)
    (done_with [] (State (Num_set q num) ∷ [])))

abbrev pub vqaddr_turn : Creation → ℕ → ℕ → ℕ → ℕ → Turn Act
vqaddr_turn made q desc driver device =
    refuse (refusal_if (is_missing made q) Inval)
    (refuse (refusal_if (not (are_aligned desc driver device)) Inval)
    (done_with [] (State (Addr_set q desc driver device) ∷ [])))

-- an act on a queue that is there
abbrev pub on_queue : Creation → ℕ → StateAct → Turn Act
on_queue made q act = refuse (refusal_if (is_missing made q) Inval) (done_with [] (State act ∷ []))

abbrev pub getvqstate_turn : Creation → ℕ → List Act → ℕ → Turn Act
getvqstate_turn made now done q = refuse (refusal_if (is_missing made q) Inval) (send_turn now done (body.VqState q))

abbrev pub callback_turn : Creation → QueueOrConfig → Bool → Turn Act
callback_turn made on flag =
    refuse (refusal_if (not (is_queue_or_config (shape_of made) on)) Inval)
    (done_with [] (State (Callback_set on flag) ∷ []))

abbrev pub irqs_turn : Creation → List StateAct → QueueOrConfig → Turn Act
irqs_turn made state on =
    refuse (refusal_if (not (is_queue_or_config (shape_of made) on)) Inval)
    (done_with (Number (interrupts_of state on) ∷ []) (State (Interrupts_taken on) ∷ []))

-- ---- the config space

-- some bytes with others in place of theirs from `at` on
abbrev pub overlay : List ℕ → ℕ → List ℕ → List ℕ
overlay old at bytes = take at old ++ (bytes ++ drop (at + length bytes) old)

-- the bytes of the config space, which were these at the making
abbrev pub config_of : List ℕ → List Act → List ℕ
config_of first [] = first
config_of first (Node (Config_put at bytes) ∷ acts) = overlay (config_of first acts) at bytes
config_of first (_ ∷ acts) = config_of first acts

-- no bytes, or some outside the config space
abbrev pub is_outside_config : List ℕ → ℕ → ℕ → Bool
is_outside_config config at len = (len == 0) || nat_lt (length config) (at + len)

abbrev pub getconfig_turn : Creation → List Act → ℕ → ℕ → Turn Act
getconfig_turn made done at len =
    refuse (refusal_if (is_outside_config made.config at len) Inval)
    (done_with (Text (slice_range (config_of made.config done) at (at + len)) ∷ []) [])

-- ---- the lines

-- a line of the bus needs a device on it, but for these three
abbrev pub needs_attachment : BusStep → Bool
needs_attachment bus.Attach = false
needs_attachment (bus.Timeout seconds) = false
needs_attachment (bus.Take id) = false
needs_attachment _ = true

abbrev pub attached_turn : Creation → ℕ → List Act → BusStep → Turn Act
attached_turn made now done bus.Attach = attach_turn made done
attached_turn made now done bus.Detach = detach_turn done
attached_turn made now done bus.Offered = done_with (Address made.features ∷ []) []
attached_turn made now done (bus.SetFeatures features) = setfeatures_turn made features
attached_turn made now done bus.GetStatus = done_with (Number (device_status (state_acts done)) ∷ []) []
attached_turn made now done (bus.SetStatus status) = send_turn now done (body.Status status)
attached_turn made now done bus.Reset = reset_turn now done
attached_turn made now done (bus.VqNum queue num) = vqnum_turn made (state_acts done) queue num
attached_turn made now done (bus.VqAddr queue desc driver device) = vqaddr_turn made queue desc driver device
attached_turn made now done (bus.VqReady queue flag) = on_queue made queue (Ready_set queue flag)
attached_turn made now done (bus.SetVqState queue avail) = on_queue made queue (Avail_set queue avail)
attached_turn made now done (bus.GetVqState queue) = getvqstate_turn made now done queue
attached_turn made now done (bus.Kick queue) = on_queue made queue (Kicked queue)
attached_turn made now done (bus.Callback on flag) = callback_turn made on flag
attached_turn made now done (bus.Irqs on) = irqs_turn made (state_acts done) on
attached_turn made now done (bus.GetConfig offset len) = getconfig_turn made done offset len
attached_turn made now done (bus.Timeout seconds) = done_with [] (Message_act (Timed seconds) ∷ [])
attached_turn made now done (bus.Take id) = take_turn id (message_told (message_acts done) id)

abbrev pub bus_turn : Creation → ℕ → List Act → BusStep → Turn Act
bus_turn made now done step =
    refuse (refusal_if (needs_attachment step && not (is_attached done)) Nodev) (attached_turn made now done step)
