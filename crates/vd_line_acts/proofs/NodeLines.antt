-- Which acts the lines of the node make.
use Rattle.std.proofs.Common.{◌≡◌, ℕ, true, refl, Option, None, Some, List, [], ◌∷◌, ◌&&◌, map, not}
use Rattle.std.specs.List.{list_all}
use Rattle.std.specs.Option.{option_map_or}
use Rattle.vd_num.specs.declared.errno.Errno.{Errno}
use Rattle.vd_num.specs.declared.errno.Errno.TheVariants.{Noent, Badf, Again}
use Rattle.vd_model.specs.declared.message.Message.{Message}
use Rattle.vd_model.specs.declared.answer.Tag.TheVariants as tag
use Rattle.vd_model.specs.declared.answer.Item.{Item}
use Rattle.vd_model.specs.declared.answer.Item.TheVariants.{Word, Number, Text}
use Rattle.vd_model.specs.declared.step.NodeStep.{NodeStep}
use Rattle.vd_model.specs.declared.step.NodeStep.TheVariants as node
use Rattle.vd_model.specs.Setting.{Setting}
use Rattle.vd_model.specs.Creation.{Creation}
use Rattle.vd_model.specs.Acts.{Act, NodeAct, Node, Message_act, State, Closed, message_acts}
use Rattle.vd_model.specs.State.{Kicks_taken}
use Rattle.vd_model.specs.Messages.{Lost, Received, next_message}
use Rattle.vd_model.specs.Live.{Registration, registration_of, is_open}
use Rattle.vd_model.specs.Turn.{Turn, refuse, refusal_if, refusal_turn, done_with}
use Rattle.vd_model.specs.NodeTurns.{registration_end, received_as, response_turn, body_items, plain_turn, opens, ioctl_turn, open_node_turn, node_turn}
use Rattle.vd_model.specs.AreaTurns.{area_turn, found_or, capability_of}
use Rattle.vd_model.specs.Raw.{Ioctl, Plain_node, Plain_area, Find_entry, Find_info, Tell_features, ioctl_of, entry_bytes, info_bytes}
use Rattle.vd_line_acts.specs.LineActs.{is_plain_node_line_act, is_node_line_act}
use Rattle.vd_line_acts.proofs.Passing.{Passes, wider, lifted_pass, refuse_passes}

abbrev IsPlainNode : Turn Act → Type 0
IsPlainNode turn = Passes is_plain_node_line_act turn

refuse_plain : (o : Option Errno) (turn : Turn Act) → IsPlainNode turn → IsPlainNode (refuse o turn)
refuse_plain = refuse_passes is_plain_node_line_act

close_acts : (o : Option Registration) → list_all is_plain_node_line_act (Message_act Lost ∷ Node Closed ∷ registration_end o) ≡ true
close_acts None = refl
close_acts (Some r) = refl

received_acts : (items : Message → List Item) (done : List Act) → IsPlainNode (received_as items done)
received_acts items done = by (next_message (message_acts done)) where
  by : (o : Option Message) → IsPlainNode (option_map_or (λ m. done_with (items m) (Message_act (Received m.id) ∷ [])) o (refusal_turn Again))
  by None = refl
  by (Some m) = refl

kicks_acts : (q : ℕ) (o : Option ℕ) → IsPlainNode (option_map_or (λ count. done_with (Number count ∷ []) (State (Kicks_taken q) ∷ [])) o (refusal_turn Noent))
kicks_acts q None = refl
kicks_acts q (Some count) = refl

response_acts : (done : List Act) (step : NodeStep) → IsPlainNode (response_turn done step)
response_acts done (node.Answer id result avail) = search refuse_plain
response_acts done _ = refl

pub plain_node_line : (made : Creation) (done : List Act) (step : NodeStep) → IsPlainNode (plain_turn made done step)
plain_node_line made done node.Open = search refuse_plain
plain_node_line made done node.Close = close_acts (registration_of done)
plain_node_line made done node.Features = refl
plain_node_line made done (node.SetConfig offset bytes) = search refuse_plain
plain_node_line made done node.ConfigIrq = search refuse_plain
plain_node_line made done (node.VqSetup queue max) = search refuse_plain
plain_node_line made done (node.VqInfo queue) = search refuse_plain
plain_node_line made done (node.KickFd queue flag) = search refuse_plain
plain_node_line made done (node.Kicks queue) = search (refuse_plain, kicks_acts)
plain_node_line made done (node.Irq queue) = search refuse_plain
plain_node_line made done node.Recv = received_acts (λ m. Word tag.Id ∷ Number m.id ∷ body_items m.body) done
plain_node_line made done (node.Answer id result avail) = search refuse_plain
plain_node_line made done (node.Read len) = search (refuse_plain, received_acts)
plain_node_line made done (node.Write bytes) = search (refuse_plain, response_acts)
plain_node_line made done (node.Ioctl number bytes) = refl

-- ---- all lines

plain_is : (act : Act) → is_plain_node_line_act act ≡ true → is_node_line_act act ≡ true
plain_is (Node act) e = refl
plain_is act e = e

plain_are : (made : Creation) (done : List Act) (step : NodeStep) → Passes is_node_line_act (plain_turn made done step)
plain_are made done step = wider is_plain_node_line_act is_node_line_act plain_is (plain_turn made done step).acts (plain_node_line made done step)

of_node : (acts : List NodeAct) → list_all is_node_line_act (map Node acts) ≡ true
of_node acts = lifted_pass is_node_line_act Node (λ act. refl) acts

ioctl_acts : (x : Setting) (made : Creation) (done : List Act) (o : Option Ioctl) → Passes is_node_line_act (ioctl_turn x made done o)
ioctl_acts x made done None = refl
ioctl_acts x made done (Some (Plain_node step)) = plain_are made done step
ioctl_acts x made done (Some (Plain_area step)) = of_node (area_turn x done step).acts
ioctl_acts x made done (Some (Find_entry start last)) = of_node (found_or x done start last (λ r. done_with (Text (entry_bytes r) ∷ []) [])).acts
ioctl_acts x made done (Some (Find_info start last)) = of_node (found_or x done start last (λ r. done_with (Text (info_bytes r (capability_of r)) ∷ []) [])).acts
ioctl_acts x made done (Some Tell_features) = refl

-- with a session
pub open_node_line : (x : Setting) (made : Creation) (done : List Act) (step : NodeStep) → Passes is_node_line_act (open_node_turn x made done step)
open_node_line x made done (node.Ioctl number bytes) = ioctl_acts x made done (ioctl_of number bytes)
open_node_line x made done step = plain_are made done step

pub node_line : (x : Setting) (made : Creation) (done : List Act) (step : NodeStep) → Passes is_node_line_act (node_turn x made done step)
node_line x made done step = refuse_passes is_node_line_act (refusal_if (not (opens step) && not (is_open done)) Badf) (open_node_turn x made done step) (open_node_line x made done step)
