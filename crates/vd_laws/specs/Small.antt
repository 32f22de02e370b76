-- Small histories, for instances of the laws.
use Rattle.std.specs.Prelude.{ℕ, List, false, codes, map}
use Rattle.vd_model.specs.declared.step.Step.{Step}
use Rattle.vd_model.specs.declared.step.Step.TheVariants.{Control, Device}
use Rattle.vd_model.specs.declared.step.ControlStep.TheVariants as control
use Rattle.vd_model.specs.declared.step.DevStep.TheVariants as line
use Rattle.vd_model.specs.declared.step.NodeStep.TheVariants as node
use Rattle.vd_model.specs.declared.step.BusStep.TheVariants as bus
use Rattle.vd_model.specs.declared.step.DriverStep.TheVariants as driver
use Rattle.vd_model.specs.Setting.{Setting}
use Rattle.vd_model.specs.History.{History}

-- four slots of bounce memory, and an image of sixteen sectors of zeros
abbrev pub small_setting : Setting
small_setting = record { bounce = 4; iova = 8; per_page = 1; sectors = 16; content = λ i. 0 }

-- two names
abbrev pub v : List ℕ
v = codes "v"

abbrev pub w : List ℕ
w = codes "w"

-- a history of steps at which the image didn't fail, the newest first
abbrev pub history_of : List Step → History
history_of steps = map (λ step. record { step = step; failed = false }) steps

-- ---- steps

abbrev pub dev : List ℕ → Step
dev name = Control (control.Dev name)

abbrev pub image : List ℕ → ℕ → ℕ → Step
image name first count = Control (control.Image name first count)

abbrev pub tick : ℕ → Step
tick seconds = Control (control.Tick seconds)

abbrev pub open_node : List ℕ → Step
open_node name = Device name (line.Node node.Open)

abbrev pub close_node : List ℕ → Step
close_node name = Device name (line.Node node.Close)

abbrev pub recv : List ℕ → Step
recv name = Device name (line.Node node.Recv)

abbrev pub answer : List ℕ → ℕ → ℕ → Step
answer name id result = Device name (line.Node (node.Answer id result 0))

abbrev pub setstatus : List ℕ → ℕ → Step
setstatus name status = Device name (line.Bus (bus.SetStatus status))

abbrev pub timeout : List ℕ → ℕ → Step
timeout name seconds = Device name (line.Bus (bus.Timeout seconds))

abbrev pub take : List ℕ → ℕ → Step
take name id = Device name (line.Bus (bus.Take id))

abbrev pub buf : List ℕ → List ℕ → Step
buf name bytes = Device name (line.Driver (driver.Buf bytes))

abbrev pub peek : List ℕ → ℕ → ℕ → ℕ → Step
peek name buffer offset len = Device name (line.Driver (driver.Peek buffer offset len))
