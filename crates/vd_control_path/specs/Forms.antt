-- Which lines are on the control path alone.
use Rattle.std.specs.Prelude.{Bool, true, false}
use Rattle.vd_model.specs.declared.step.NodeStep.{NodeStep}
use Rattle.vd_model.specs.declared.step.NodeStep.TheVariants as node
use Rattle.vd_model.specs.declared.step.BusStep.{BusStep}
use Rattle.vd_model.specs.declared.step.BusStep.TheVariants as bus

-- all of the node, but the end of a session and an ioctl, which stands for another line
abbrev pub is_node_line_of_path : NodeStep → Bool
is_node_line_of_path node.Close = false
is_node_line_of_path (node.Ioctl number bytes) = false
is_node_line_of_path _ = true

-- all of the bus, but the end of an attachment, a reset and the end of a message, which may be one
abbrev pub is_bus_line_of_path : BusStep → Bool
is_bus_line_of_path bus.Detach = false
is_bus_line_of_path bus.Reset = false
is_bus_line_of_path (bus.Take id) = false
is_bus_line_of_path _ = true
