-- Which lines take no memory, so that the want of it never stops them, and which touch the image.
use Rattle.std.specs.Prelude.{Bool, false}
use Rattle.vd_model.specs.declared.step.Step.{Step}
use Rattle.vd_model.specs.declared.step.Step.TheVariants.{Device, Queue}
use Rattle.vd_device.specs.Frugal.{takes_no_memory}
use Rattle.vd_instance.specs.Image.{is_execute}

-- of the lines on a device, those that take none there
abbrev pub is_frugal : Step → Bool
is_frugal (Device name step) = takes_no_memory step
is_frugal _ = false

-- an execute, which alone touches the image
abbrev pub is_execution : Step → Bool
is_execution (Queue name step) = is_execute step
is_execution _ = false
