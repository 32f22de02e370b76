-- What of a history concerns one device, and when two histories agree on it.
use Rattle.std.specs.Prelude.{ℕ, List, [], ◌∷◌, Bool, true, false, ◌&&◌, not, if◌then◌else◌, Option, Some, None, ◌≡◌}
use Rattle.std.specs.Str.{bytes_eq}
use Rattle.vd_model.specs.declared.answer.Answer.{Answer}
use Rattle.vd_model.specs.declared.step.Step.{Step}
use Rattle.vd_model.specs.declared.step.Step.TheVariants.{Control, Device, Queue}
use Rattle.vd_model.specs.declared.step.ControlStep.{ControlStep}
use Rattle.vd_model.specs.declared.step.ControlStep.TheVariants as control
use Rattle.vd_model.specs.Raw.{control_step}
use Rattle.vd_model.specs.Setting.{Setting}
use Rattle.vd_model.specs.History.{History, reply}

-- an entry with its answer
pub record AnsweredEntry : Type 0 where
  pub step : Step
  pub failed : Bool
  pub answer : Answer

-- a control line names the device, or moves the clock
abbrev pub plain_concerns : List ℕ → ControlStep → Bool
plain_concerns d (control.Create name vendor device features queues align config) = bytes_eq d name
plain_concerns d (control.Destroy name) = bytes_eq d name
plain_concerns d (control.Dev name) = bytes_eq d name
plain_concerns d (control.Image name first count) = bytes_eq d name
plain_concerns d (control.Tick seconds) = true
plain_concerns d _ = false

-- a raw line names the device that the line names that its bytes stand for
abbrev pub raw_concerns : List ℕ → Option ControlStep → Bool
raw_concerns d None = false
raw_concerns d (Some step) = plain_concerns d step

abbrev pub control_concerns : List ℕ → ControlStep → Bool
control_concerns d (control.Control number bytes) = raw_concerns d (control_step number bytes)
control_concerns d step = plain_concerns d step

-- the step names this device, or moves the clock
abbrev pub concerns : List ℕ → Step → Bool
concerns d (Control step) = control_concerns d step
concerns d (Device name step) = bytes_eq d name
concerns d (Queue name step) = bytes_eq d name

-- the entries that name this device or move the clock, with their answers
unfoldable pub device_entries : Setting → List ℕ → History → List AnsweredEntry
device_entries x d [] = []
device_entries x d (entry ∷ before) =
    if concerns d entry.step
    then record { step = entry.step; failed = entry.failed; answer = reply x before entry.step entry.failed } ∷ device_entries x d before
    else device_entries x d before

-- two histories agree on a device
abbrev pub Agree : Setting → List ℕ → History → History → Type 0
Agree x d h g = device_entries x d h ≡ device_entries x d g

-- what all devices share a limit in: a line that makes one, or gives it sectors of the image
abbrev pub plain_shares : ControlStep → Bool
plain_shares (control.Create name vendor device features queues align config) = true
plain_shares (control.Dev name) = true
plain_shares (control.Image name first count) = true
plain_shares _ = false

abbrev pub raw_shares : Option ControlStep → Bool
raw_shares None = false
raw_shares (Some step) = plain_shares step

abbrev pub control_shares : ControlStep → Bool
control_shares (control.Control number bytes) = raw_shares (control_step number bytes)
control_shares step = plain_shares step

-- the step names this device, and shares no limit with other devices
abbrev pub is_private : List ℕ → Step → Bool
is_private d (Control step) = control_concerns d step && not (control_shares step)
is_private d (Device name step) = bytes_eq d name
is_private d (Queue name step) = bytes_eq d name
