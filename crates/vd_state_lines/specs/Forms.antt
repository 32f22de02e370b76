-- Which lines are on the state.
use Rattle.std.specs.Prelude.{Bool, true, false}
use Rattle.vd_model.specs.declared.step.NodeStep.{NodeStep}
use Rattle.vd_model.specs.declared.step.NodeStep.TheVariants as node
use Rattle.vd_model.specs.declared.step.BusStep.{BusStep}
use Rattle.vd_model.specs.declared.step.BusStep.TheVariants as bus

abbrev pub is_node_line_of_state : NodeStep → Bool
is_node_line_of_state node.Features = true
is_node_line_of_state node.ConfigIrq = true
is_node_line_of_state (node.VqSetup queue max) = true
is_node_line_of_state (node.VqInfo queue) = true
is_node_line_of_state (node.KickFd queue flag) = true
is_node_line_of_state (node.Kicks queue) = true
is_node_line_of_state (node.Irq queue) = true
is_node_line_of_state _ = false

abbrev pub is_bus_line_of_state : BusStep → Bool
is_bus_line_of_state bus.Offered = true
is_bus_line_of_state (bus.SetFeatures features) = true
is_bus_line_of_state bus.GetStatus = true
is_bus_line_of_state (bus.VqNum queue num) = true
is_bus_line_of_state (bus.VqAddr queue desc driver device) = true
is_bus_line_of_state (bus.VqReady queue flag) = true
is_bus_line_of_state (bus.SetVqState queue avail) = true
is_bus_line_of_state (bus.Kick queue) = true
is_bus_line_of_state (bus.Callback on flag) = true
is_bus_line_of_state (bus.Irqs on) = true
is_bus_line_of_state _ = false
