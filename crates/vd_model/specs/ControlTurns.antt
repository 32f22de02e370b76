-- The lines of the control node and of the clock.
use Rattle.std.specs.Prelude.{ℕ, ◌+◌, ◌^◌, List, [], ◌∷◌, ◌==◌, ◌||◌, not, nat_lt, nat_le, length, Bool, true, false, Option, Some, None, is_some, replicate, if◌then◌else◌}
use Rattle.std.specs.List.{list_all}
use Rattle.vd_num.specs.declared.errno.Errno.{Errno}
use Rattle.vd_num.specs.declared.errno.Errno.TheVariants.{Busy, Exist, Nodev, Inval, Nospc}
use Rattle.vd_model.specs.declared.answer.Tag.TheVariants.{Session}
use Rattle.vd_model.specs.declared.answer.Item.{Item}
use Rattle.vd_model.specs.declared.answer.Item.TheVariants.{Word, Number, Text}
use Rattle.vd_model.specs.declared.answer.Answer.{Answer}
use Rattle.vd_model.specs.declared.answer.Answer.TheVariants.{Done, Err}
use Rattle.vd_model.specs.declared.step.ControlStep.{ControlStep}
use Rattle.vd_model.specs.declared.step.ControlStep.TheVariants as control
use Rattle.vd_model.specs.Setting.{Setting}
use Rattle.vd_model.specs.Acts.{Node, State, Bus, Opened, Attached}
use Rattle.vd_model.specs.State.{Max_set}
use Rattle.vd_model.specs.Live.{is_open, is_attached}
use Rattle.vd_model.specs.Turn.{refusal_if}
use Rattle.vd_model.specs.Fields.{is_name_byte}
use Rattle.vd_model.specs.Raw.{control_step}
use Rattle.vd_model.specs.Creation.{Creation, has_feature}
use Rattle.vd_model.specs.Deeds.{Deed, Made, Destroyed, On, Given, Passed, acts_of_device, has_device, devices, clock, window_of, is_given}

-- a step's answer, and what it does, the newest first
pub record Outcome : Type 0 where
  pub answer : Answer
  pub deeds : List Deed

abbrev pub done_outcome : List Item → List Deed → Outcome
done_outcome items deeds = record { answer = Done items; deeds = deeds }

abbrev pub refusal_outcome : Errno → Outcome
refusal_outcome errno = record { answer = Err errno; deeds = [] }

-- a refusal, if there is one, and else this outcome
abbrev pub refuse_outcome : Option Errno → Outcome → Outcome
refuse_outcome None outcome = outcome
refuse_outcome (Some errno) outcome = refusal_outcome errno

-- ---- devices

-- at most eight devices are there at once
abbrev pub device_limit : ℕ
device_limit = 8

-- what is made of a name is refused where the name is there, or where there are eight devices
abbrev pub new_or : List Deed → List ℕ → Outcome → Outcome
new_or done name outcome =
    refuse_outcome (refusal_if (has_device name done) Exist)
    (refuse_outcome (refusal_if (nat_le device_limit (devices done)) Nospc) outcome)

-- a device of one queue with the features VERSION_1, ACCESS_PLATFORM, FLUSH, INDIRECT_DESC and EVENT_IDX
abbrev pub plain_creation : Creation
plain_creation = record { features = 0x330000200; queues = 1; config = replicate 36 0 }

-- a device that is made, opened and set up, and then attached to the bus
abbrev pub dev_made : List ℕ → Outcome
dev_made name =
    done_outcome (Word Session ∷ Number 0 ∷ [])
    (On name (Bus Attached) ∷ On name (State (Max_set 0 256)) ∷ On name (Node Opened) ∷ Made name plain_creation ∷ [])

abbrev pub dev_outcome : List Deed → List ℕ → Outcome
dev_outcome done name = new_or done name (dev_made name)

-- a config is refused: another kind of device than block, no ACCESS_PLATFORM (bit 33), CONFIG_WCE (bit 11), no queue or
-- more than 64, an alignment above 4,096, or more than 4,096 bytes of config space
abbrev pub is_bad_config : ℕ → ℕ → ℕ → ℕ → List ℕ → Bool
is_bad_config device features queues align config =
    not (device == 2) || not (has_feature features 33) || has_feature features 11
    || (queues == 0) || nat_lt 64 queues || nat_lt 4096 align || nat_lt 4096 (length config)

-- no bytes, or some that no name has
abbrev pub is_bad_name : List ℕ → Bool
is_bad_name name = (length name == 0) || not (list_all is_name_byte name)

abbrev pub create_outcome : List Deed → List ℕ → ℕ → ℕ → ℕ → ℕ → List ℕ → Outcome
create_outcome done name device features queues align config =
    refuse_outcome (refusal_if (is_bad_name name || is_bad_config device features queues align config) Inval)
    (new_or done name (done_outcome [] (Made name (record { features = features; queues = queues; config = config }) ∷ [])))

-- the device is open or on the bus
abbrev pub is_device_in_use : List ℕ → List Deed → Bool
is_device_in_use name done = is_open (acts_of_device name done) || is_attached (acts_of_device name done)

abbrev pub destroy_outcome : List Deed → List ℕ → Outcome
destroy_outcome done name =
    refuse_outcome (refusal_if (not (has_device name done)) Nodev)
    (refuse_outcome (refusal_if (is_device_in_use name done) Busy) (done_outcome [] (Destroyed name ∷ [])))

-- ---- the version of the interface, which is 0

abbrev pub setversion_outcome : ℕ → Outcome
setversion_outcome version = refuse_outcome (refusal_if (nat_lt 0 version) Inval) (done_outcome [] [])

-- ---- the clock, in seconds up to 2 to the 40th

abbrev pub tick_outcome : ℕ → Outcome
tick_outcome now = refuse_outcome (refusal_if (nat_lt (2 ^ 40) now) Inval) (done_outcome (Number now ∷ []) (Passed now ∷ []))

-- ---- sectors of the image

abbrev pub image_outcome : Setting → List Deed → List ℕ → ℕ → ℕ → Outcome
image_outcome x done name first count =
    refuse_outcome (refusal_if (not (has_device name done)) Nodev)
    (refuse_outcome (refusal_if (is_some (window_of name done)) Exist)
    (refuse_outcome (refusal_if (count == 0) Inval)
    (refuse_outcome (refusal_if (nat_lt x.sectors (first + count)) Nospc)
    (refuse_outcome (refusal_if (is_given first count done) Busy)
    (done_outcome [] (Given name (record { first = first; count = count }) ∷ []))))))

-- ---- the lines

abbrev pub plain_outcome : Setting → List Deed → ControlStep → Outcome
plain_outcome x done control.Version = done_outcome (Number 0 ∷ []) []
plain_outcome x done (control.SetVersion version) = setversion_outcome version
plain_outcome x done (control.Create name vendor device features queues align config) = create_outcome done name device features queues align config
plain_outcome x done (control.Destroy name) = destroy_outcome done name
plain_outcome x done (control.Dev name) = dev_outcome done name
plain_outcome x done (control.Tick seconds) = tick_outcome (clock done + seconds)
plain_outcome x done (control.Image name first count) = image_outcome x done name first count
plain_outcome x done (control.Control number bytes) = refusal_outcome Inval

-- a raw line is answered as the plain line that it stands for, and the version as a number of eight bytes
abbrev pub raw_outcome : Setting → List Deed → Option ControlStep → Outcome
raw_outcome x done None = refusal_outcome Inval
raw_outcome x done (Some control.Version) = done_outcome (Text (replicate 8 0) ∷ []) []
raw_outcome x done (Some step) = plain_outcome x done step

abbrev pub control_outcome : Setting → List Deed → ControlStep → Outcome
control_outcome x done (control.Control number bytes) = raw_outcome x done (control_step number bytes)
control_outcome x done step = plain_outcome x done step
