-- Which device a line names.
use Rattle.std.specs.Prelude.{ℕ, List, Option, Some, None}
use Rattle.vd_model.specs.declared.step.Step.{Step}
use Rattle.vd_model.specs.declared.step.Step.TheVariants.{Control, Device, Queue}
use Rattle.vd_model.specs.declared.step.ControlStep.{ControlStep}
use Rattle.vd_model.specs.declared.step.ControlStep.TheVariants as control

-- the device that a control line names
abbrev pub control_device : ControlStep → Option (List ℕ)
control_device (control.Create name vendor device features queues align config) = Some name
control_device (control.Destroy name) = Some name
control_device (control.Dev name) = Some name
control_device (control.Image name first count) = Some name
control_device _ = None

-- the device that a line names; the name inside the bytes of a control line isn't looked at
abbrev pub device_of : Step → Option (List ℕ)
device_of (Control step) = control_device step
device_of (Device name step) = Some name
device_of (Queue name step) = Some name
