-- The lines on a device make no act on a queue.
use Rattle.std.proofs.Common.{◌≡◌, Bool, true, false, refl}
use Rattle.std.specs.List.{list_all}
use Rattle.vd_num.specs.declared.errno.Errno.TheVariants.{Nodev}
use Rattle.vd_model.specs.declared.step.DevStep.{DevStep}
use Rattle.vd_model.specs.Deeds.{Seen}
use Rattle.vd_model.specs.History.{dev_turn, device_turn}
use Rattle.vd_model.specs.Creation.{Creation}
use Rattle.vd_model.specs.Acts.{Act, Queue}
use Rattle.vd_model.specs.Turn.{Turn}
use Rattle.vd_model.specs.Setting.{Setting}
use Rattle.vd_line_acts.specs.LineActs.{is_device_line_act}
use Rattle.vd_line_acts.proofs.Passing.{wider, there_passes}
use Rattle.vd_line_acts.proofs.DeviceLines.{device_line}

-- the act is none on a queue
abbrev pub is_off : Act → Bool
is_off (Queue act) = false
is_off _ = true

-- all acts of a turn are such
abbrev pub IsOff : Turn Act → Type 0
IsOff turn = list_all is_off turn.acts ≡ true

device_is_off : (act : Act) → is_device_line_act act ≡ true → is_off act ≡ true
device_is_off (Queue act) e = cc
device_is_off _ e = refl

dev_off : (x : Setting) (made : Creation) (s : Seen) (step : DevStep) → IsOff (dev_turn x made s step)
dev_off x made s step = wider is_device_line_act is_off device_is_off (dev_turn x made s step).acts (device_line x made s step)

-- also where there is no device of the name
pub device_off : (x : Setting) (s : Seen) (step : DevStep) → IsOff (device_turn x s step)
device_off x s step = there_passes is_off (λ made. dev_turn x made s step) s.made Nodev (λ made. dev_off x made s step)
