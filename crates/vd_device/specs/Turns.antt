-- The turn of a line on a device, but for the tests of what belongs to a ring or to a pending request.
use Rattle.std.specs.Prelude.{ℕ, List, Bool, true, false}
use Rattle.vd_model.specs.declared.step.DevStep.{DevStep}
use Rattle.vd_model.specs.declared.step.DevStep.TheVariants as line
use Rattle.vd_model.specs.declared.step.NodeStep.{NodeStep}
use Rattle.vd_model.specs.declared.step.NodeStep.TheVariants as node
use Rattle.vd_model.specs.Setting.{Setting}
use Rattle.vd_model.specs.Creation.{Creation}
use Rattle.vd_model.specs.Acts.{Act, Node, Driver}
use Rattle.vd_model.specs.Turn.{Turn, lift}
use Rattle.vd_model.specs.DriverTurns.{driver_turn}
use Rattle.vd_model.specs.AreaTurns.{area_turn}
use Rattle.vd_model.specs.NodeTurns.{node_turn}
use Rattle.vd_model.specs.BusTurns.{bus_turn}
use Rattle.vd_model.specs.History.{needs_session, needs_bus}

abbrev pub line_turn : Setting → Creation → ℕ → List Act → DevStep → Turn Act
line_turn x made now acts (line.Node step) = node_turn x made acts step
line_turn x made now acts (line.Area step) = needs_session acts (lift Node (area_turn x acts step))
line_turn x made now acts (line.Bus step) = bus_turn made now acts step
line_turn x made now acts (line.Driver step) = needs_bus acts (lift Driver (driver_turn x acts step))

-- a line of the node that is no ioctl
abbrev pub is_plain : NodeStep → Bool
is_plain (node.Ioctl number bytes) = false
is_plain _ = true
