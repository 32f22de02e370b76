-- The turns of the daemon and of the bus make acts of which no law needs a premise.
use Rattle.std.proofs.Common.{◌≡◌, ℕ, Bool, true, false, refl, List, [], ◌∷◌, ◌++◌}
use Rattle.std.proofs.lemmas.Bool.{and_parts}
use Rattle.std.specs.List.{list_all}
use Rattle.vd_model.specs.declared.step.BusStep.{BusStep}
use Rattle.vd_model.specs.declared.step.NodeStep.{NodeStep}
use Rattle.vd_model.specs.Setting.{Setting}
use Rattle.vd_model.specs.Creation.{Creation}
use Rattle.vd_model.specs.Acts.{Act, Driver, Node, Queue, Area_made, Registered, Ring_made, Chain_added}
use Rattle.vd_model.specs.Turn.{Turn}
use Rattle.vd_model.specs.BusTurns.{bus_turn}
use Rattle.vd_model.specs.NodeTurns.{plain_turn}
use Rattle.vd_line_acts.specs.LineActs.{is_bus_line_act, is_plain_node_line_act}
use Rattle.vd_line_acts.proofs.Passing.{wider}
use Rattle.vd_line_acts.proofs.BusLines.{bus_line}
use Rattle.vd_line_acts.proofs.NodeLines.{plain_node_line}
use Rattle.vd_laws.proofs.Legal.{Admits, Legal}

-- no law needs a premise of the act, and it isn't a driver's
abbrev pub is_plain : Act → Bool
is_plain (Driver act) = false
is_plain (Node (Area_made len)) = false
is_plain (Node (Registered base size)) = false
is_plain (Queue (Ring_made q place region)) = false
is_plain (Queue (Chain_added q chain)) = false
is_plain _ = true

-- all acts of a turn are plain
abbrev pub IsPlain : Turn Act → Type 0
IsPlain turn = list_all is_plain turn.acts ≡ true

plain_admitted : (x : Setting) (acts : List Act) (act : Act) → is_plain act ≡ true → Admits x acts act
plain_admitted x acts (Driver act) e = cc
plain_admitted x acts (Node (Area_made len)) e = cc
plain_admitted x acts (Node (Registered base size)) e = cc
plain_admitted x acts (Queue (Ring_made q place region)) e = cc
plain_admitted x acts (Queue (Chain_added q chain)) e = cc
plain_admitted x acts _ e = tt

pub plain_legal : (x : Setting) (made acts : List Act) → list_all is_plain made ≡ true → Legal x acts → Legal x (made ++ acts)
plain_legal x [] acts e h = h
plain_legal x (act ∷ made) acts e h =
    let p = and_parts (is_plain act) (list_all is_plain made) e in
    let rest = plain_legal x made acts p.1 h in
    (plain_admitted x (made ++ acts) act p.0, rest)

-- ---- the lines of the bus and of the node

bus_is : (act : Act) → is_bus_line_act act ≡ true → is_plain act ≡ true
bus_is (Driver act) e = cc
bus_is (Node act) e = cc
bus_is (Queue act) e = cc
bus_is _ e = refl

pub bus_plain : (made : Creation) (now : ℕ) (done : List Act) (step : BusStep) → IsPlain (bus_turn made now done step)
bus_plain made now done step = wider is_bus_line_act is_plain bus_is (bus_turn made now done step).acts (bus_line made now done step)

node_is : (act : Act) → is_plain_node_line_act act ≡ true → is_plain act ≡ true
node_is (Driver act) e = cc
node_is (Node (Area_made len)) e = cc
node_is (Node (Registered base size)) e = cc
node_is (Queue act) e = cc
node_is _ e = refl

pub node_plain : (made : Creation) (done : List Act) (step : NodeStep) → IsPlain (plain_turn made done step)
node_plain made done step = wider is_plain_node_line_act is_plain node_is (plain_turn made done step).acts (plain_node_line made done step)
