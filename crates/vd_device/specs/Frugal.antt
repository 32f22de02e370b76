-- Which lines take no memory, so that the want of it never stops them.
use Rattle.std.specs.Prelude.{Bool, true, false}
use Rattle.vd_model.specs.declared.step.BusStep.{BusStep}
use Rattle.vd_model.specs.declared.step.BusStep.TheVariants as bus
use Rattle.vd_model.specs.declared.step.DevStep.{DevStep}
use Rattle.vd_model.specs.declared.step.DevStep.TheVariants as line
use Rattle.vd_memory_lines.specs.Frugal.{is_frugal_driver_line, is_frugal_area_line}
use Rattle.vd_device.specs.Turns.{is_plain}

abbrev pub is_kick : BusStep → Bool
is_kick (bus.Kick queue) = true
is_kick _ = false

-- all of the node but an ioctl, of the bus a kick, and what a memory answers without taking any
abbrev pub takes_no_memory : DevStep → Bool
takes_no_memory (line.Node step) = is_plain step
takes_no_memory (line.Area step) = is_frugal_area_line step
takes_no_memory (line.Bus step) = is_kick step
takes_no_memory (line.Driver step) = is_frugal_driver_line step
