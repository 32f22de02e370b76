-- The lines of the device node: the session, the config space, queues, kicks, interrupts and messages.
use Rattle.std.specs.Prelude.{ℕ, List, [], ◌∷◌, length, Bool, true, false, ◌&&◌, nat_lt, not, if◌then◌else◌, Option, Some, None}
use Rattle.std.specs.Option.{option_map_or}
use Rattle.vd_num.specs.declared.errno.Errno.TheVariants.{Noent, Badf, Again, Busy, Inval}
use Rattle.vd_model.specs.declared.message.Body.{Body}
use Rattle.vd_model.specs.declared.message.Body.TheVariants as body
use Rattle.vd_model.specs.declared.message.Message.{Message}
use Rattle.vd_model.specs.declared.step.QueueOrConfig.TheVariants as interrupt
use Rattle.vd_model.specs.declared.queue.QueueInfo.{QueueInfo}
use Rattle.vd_model.specs.declared.step.NodeStep.{NodeStep}
use Rattle.vd_model.specs.declared.step.NodeStep.TheVariants as node
use Rattle.vd_model.specs.declared.answer.Tag.TheVariants as tag
use Rattle.vd_model.specs.declared.answer.Item.{Item}
use Rattle.vd_model.specs.declared.answer.Item.TheVariants.{Word, Number, Address, Text}
use Rattle.vd_model.specs.Setting.{Setting}
use Rattle.vd_model.specs.Creation.{Creation}
use Rattle.vd_model.specs.Acts.{Act, NodeAct, Node, Message_act, State, Opened, Closed, Config_put, Deregistered, message_acts, state_acts}
use Rattle.vd_model.specs.Messages.{Received, Answered, Lost, is_held, next_message}
use Rattle.vd_model.specs.State.{StateAct, Max_set, Kick_file_set, Kicks_taken, Injected, is_driver_ok, features_of, queue_info, kick_file_of}
use Rattle.vd_model.specs.Live.{Registration, sessions, is_open, registration_of}
use Rattle.vd_model.specs.Turn.{Turn, refusal_turn, refuse, refusal_if, lift, done_with}
use Rattle.vd_model.specs.BusTurns.{is_missing, is_outside_config, on_queue}
use Rattle.vd_model.specs.AreaTurns.{found_or, capability_of, area_turn}
use Rattle.vd_model.specs.Raw.{little_bytes, Ioctl, Plain_node, Plain_area, Find_entry, Find_info, Tell_features, request_bytes, response_step, ioctl_of, entry_bytes, info_bytes}
use Rattle.vd_model.specs.Turn as turn

-- ---- the session

abbrev pub open_turn : List Act → Turn Act
open_turn done = refuse (refusal_if (is_open done) Busy) (done_with (Word tag.Session ∷ Number (sessions done) ∷ []) (Node Opened ∷ []))

-- the end of a registration, where one stands
abbrev pub registration_end : Option Registration → List Act
registration_end None = []
registration_end (Some r) = Node Deregistered ∷ []

-- a close ends the registration and the session, and loses the messages that the session held
abbrev pub close_turn : List Act → Turn Act
close_turn done = done_with [] (Message_act Lost ∷ Node Closed ∷ registration_end (registration_of done))

-- ---- the config space and the queues

abbrev pub setconfig_turn : Creation → ℕ → List ℕ → Turn Act
setconfig_turn made at bytes =
    refuse (refusal_if (is_outside_config made.config at (length bytes)) Inval)
    (done_with [] (Node (Config_put at bytes) ∷ []))

-- interrupts are refused until the driver is ready
abbrev pub configirq_turn : List StateAct → Turn Act
configirq_turn state = refuse (refusal_if (not (is_driver_ok state)) Inval) (done_with [] (State (Injected interrupt.Config) ∷ []))

abbrev pub irq_turn : Creation → List StateAct → ℕ → Turn Act
irq_turn made state q =
    refuse (refusal_if (is_missing made q) Inval)
    (refuse (refusal_if (not (is_driver_ok state)) Inval)
    (done_with [] (State (Injected (interrupt.Queue q)) ∷ [])))

-- a flag as a number
abbrev pub flag_of : Bool → ℕ
flag_of flag = if flag then 1 else 0

abbrev pub info_items : QueueInfo → List Item
info_items i =
    Word tag.Num ∷ Number i.num ∷ Word tag.Desc ∷ Address i.desc ∷ Word tag.Driver ∷ Address i.driver ∷ Word tag.Device ∷ Address i.device
    ∷ Word tag.Avail ∷ Number i.avail ∷ Word tag.Ready ∷ Number (flag_of i.ready) ∷ []

abbrev pub vqinfo_turn : Creation → List StateAct → ℕ → Turn Act
vqinfo_turn made state q = refuse (refusal_if (is_missing made q) Inval) (done_with (info_items (queue_info state q)) [])

abbrev pub kicks_turn : Creation → List StateAct → ℕ → Turn Act
kicks_turn made state q =
    refuse (refusal_if (is_missing made q) Inval)
    (option_map_or (λ count. done_with (Number count ∷ []) (State (Kicks_taken q) ∷ [])) (kick_file_of state q) (refusal_turn Noent))

-- ---- messages

abbrev pub body_items : Body → List Item
body_items (body.Status value) = Word tag.Status ∷ Number value ∷ []
body_items (body.VqState index) = Word tag.VqState ∷ Number index ∷ []
body_items (body.Iotlb range) = Word tag.Iotlb ∷ Address range.start ∷ Address range.last ∷ []

-- the first message that isn't held is received, and told in this way
abbrev pub received_as : (Message → List Item) → List Act → Turn Act
received_as items done = option_map_or (λ m. done_with (items m) (Message_act (Received m.id) ∷ [])) (next_message (message_acts done)) (refusal_turn Again)

abbrev pub recv_turn : List Act → Turn Act
recv_turn done = received_as (λ m. Word tag.Id ∷ Number m.id ∷ body_items m.body) done

-- an answer to a message that the session holds
abbrev pub answered_with : List Item → List Act → ℕ → ℕ → ℕ → Turn Act
answered_with items done id result avail =
    refuse (refusal_if (not (is_held (message_acts done) id)) Noent)
    (done_with items (Message_act (Answered id result avail) ∷ []))

-- a read of a request has room for 152 bytes
abbrev pub read_turn : List Act → ℕ → Turn Act
read_turn done len =
    refuse (refusal_if (nat_lt len 152) Inval)
    (received_as (λ m. Text (request_bytes m.id m.body) ∷ []) done)

-- a write has a response in its first 152 bytes
abbrev pub response_turn : List Act → NodeStep → Turn Act
response_turn done (node.Answer id result avail) = answered_with (Number 152 ∷ []) done id result avail
response_turn done _ = refusal_turn Inval

abbrev pub write_turn : List Act → List ℕ → Turn Act
write_turn done bytes =
    refuse (refusal_if (nat_lt (length bytes) 152) Inval)
    (response_turn done (response_step bytes))

-- ---- the lines

-- every line of the node needs a session but the one that opens it
abbrev pub opens : NodeStep → Bool
opens node.Open = true
opens _ = false

-- the plain lines
abbrev pub plain_turn : Creation → List Act → NodeStep → Turn Act
plain_turn made done node.Open = open_turn done
plain_turn made done node.Close = close_turn done
plain_turn made done node.Features = done_with (Address (features_of (state_acts done)) ∷ []) []
plain_turn made done (node.SetConfig offset bytes) = setconfig_turn made offset bytes
plain_turn made done node.ConfigIrq = configirq_turn (state_acts done)
plain_turn made done (node.VqSetup queue max) = on_queue made queue (Max_set queue max)
plain_turn made done (node.VqInfo queue) = vqinfo_turn made (state_acts done) queue
plain_turn made done (node.KickFd queue flag) = on_queue made queue (Kick_file_set queue flag)
plain_turn made done (node.Kicks queue) = kicks_turn made (state_acts done) queue
plain_turn made done (node.Irq queue) = irq_turn made (state_acts done) queue
plain_turn made done node.Recv = recv_turn done
plain_turn made done (node.Answer id result avail) = answered_with [] done id result avail
plain_turn made done (node.Read len) = read_turn done len
plain_turn made done (node.Write bytes) = write_turn done bytes
plain_turn made done (node.Ioctl number bytes) = refusal_turn Inval

-- what an ioctl stands for is answered as its plain line is, and a look-up by a struct
abbrev pub ioctl_turn : Setting → Creation → List Act → Option Ioctl → Turn Act
ioctl_turn x made done None = refusal_turn Inval
ioctl_turn x made done (Some (Plain_node step)) = plain_turn made done step
ioctl_turn x made done (Some (Plain_area step)) = lift Node (area_turn x done step)
ioctl_turn x made done (Some (Find_entry start last)) = lift Node (found_or x done start last (λ r. turn.done_with (Text (entry_bytes r) ∷ []) []))
ioctl_turn x made done (Some (Find_info start last)) = lift Node (found_or x done start last (λ r. turn.done_with (Text (info_bytes r (capability_of r)) ∷ []) []))
ioctl_turn x made done (Some Tell_features) = done_with (Text (little_bytes 8 (features_of (state_acts done))) ∷ []) []

abbrev pub open_node_turn : Setting → Creation → List Act → NodeStep → Turn Act
open_node_turn x made done (node.Ioctl number bytes) = ioctl_turn x made done (ioctl_of number bytes)
open_node_turn x made done step = plain_turn made done step

abbrev pub node_turn : Setting → Creation → List Act → NodeStep → Turn Act
node_turn x made done step =
    refuse (refusal_if (not (opens step) && not (is_open done)) Badf) (open_node_turn x made done step)
