-- The lines of the node, of its area and of the bus change nothing of what pending requests have.
use Rattle.std.proofs.Common.{◌≡◌, map, ℕ, true, refl, List}
use Rattle.std.specs.List.{list_all}
use Rattle.vd_model.specs.declared.step.BusStep.{BusStep}
use Rattle.vd_model.specs.declared.step.NodeStep.{NodeStep}
use Rattle.vd_model.specs.Setting.{Setting}
use Rattle.vd_model.specs.Creation.{Creation}
use Rattle.vd_model.specs.Acts.{Act, NodeAct, Node, Driver, Queue}
use Rattle.vd_model.specs.Turn.{Turn}
use Rattle.vd_model.specs.BusTurns.{bus_turn}
use Rattle.vd_model.specs.NodeTurns.{node_turn}
use Rattle.vd_line_acts.specs.LineActs.{is_bus_line_act, is_node_line_act}
use Rattle.vd_line_acts.proofs.Passing.{wider, lifted_pass}
use Rattle.vd_line_acts.proofs.BusLines.{bus_line}
use Rattle.vd_line_acts.proofs.NodeLines.{node_line}
use Rattle.vd_request_laws.specs.Owned.{is_quiet}

-- all acts of a turn are quiet
abbrev pub IsQuiet : Turn Act → Type 0
IsQuiet turn = list_all is_quiet turn.acts ≡ true

bus_is : (act : Act) → is_bus_line_act act ≡ true → is_quiet act ≡ true
bus_is (Driver act) e = cc
bus_is (Queue act) e = cc
bus_is _ e = refl

pub bus_quiet : (made : Creation) (now : ℕ) (done : List Act) (step : BusStep) → IsQuiet (bus_turn made now done step)
bus_quiet made now done step = wider is_bus_line_act is_quiet bus_is (bus_turn made now done step).acts (bus_line made now done step)

pub nodes_quiet : (acts : List NodeAct) → list_all is_quiet (map Node acts) ≡ true
nodes_quiet acts = lifted_pass is_quiet Node (λ act. refl) acts

node_is : (act : Act) → is_node_line_act act ≡ true → is_quiet act ≡ true
node_is (Driver act) e = cc
node_is (Queue act) e = cc
node_is _ e = refl

pub node_quiet : (x : Setting) (made : Creation) (done : List Act) (step : NodeStep) → IsQuiet (node_turn x made done step)
node_quiet x made done step = wider is_node_line_act is_quiet node_is (node_turn x made done step).acts (node_line x made done step)
