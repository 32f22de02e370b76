-- How a step is written as a line.
use Rattle.std.specs.Prelude.{ℕ, List, [], ◌∷◌}
use Rattle.std.specs.List.{join_with_byte}
use Rattle.vd_model.specs.ControlLines.{control_text}
use Rattle.vd_model.specs.NodeLines.{node_text}
use Rattle.vd_model.specs.AreaLines.{area_text}
use Rattle.vd_model.specs.BusLines.{bus_text}
use Rattle.vd_model.specs.DriverLines.{driver_text}
use Rattle.vd_model.specs.QueueLines.{queue_text}
use Rattle.vd_model.specs.declared.step.DevStep.{DevStep}
use Rattle.vd_model.specs.declared.step.DevStep.TheVariants.{Node, Area, Bus, Driver}
use Rattle.vd_model.specs.declared.step.Step.{Step}
use Rattle.vd_model.specs.declared.step.Step.TheVariants.{Control, Device, Queue}

-- the words of a step on a device, without its name
abbrev pub device_text : DevStep → List (List ℕ)
device_text (Node s) = node_text s
device_text (Area s) = area_text s
device_text (Bus s) = bus_text s
device_text (Driver s) = driver_text s

-- words, with a device's name behind the first one
abbrev pub with_name : List ℕ → List (List ℕ) → List (List ℕ)
with_name d [] = []
with_name d (w ∷ ws) = w ∷ d ∷ ws

-- the words of a step's line
abbrev pub step_text : Step → List (List ℕ)
step_text (Control s) = control_text s
step_text (Device d s) = with_name d (device_text s)
step_text (Queue d s) = with_name d (queue_text s)

-- the line of a step, without a line feed: its words with a space between them
abbrev pub spelling : Step → List ℕ
spelling s = join_with_byte 32 (step_text s)
