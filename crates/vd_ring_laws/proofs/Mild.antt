-- Lines that act on no queue's ring.
use Rattle.std.proofs.Common.{◌≡◌, ℕ, Bool, true, false, refl, ap, List}
use Rattle.std.specs.List.{list_all}
use Rattle.vd_model.specs.Setting.{Setting}
use Rattle.vd_model.specs.Creation.{Creation}
use Rattle.vd_model.specs.Acts.{Act, Executed, Driver, Queue, Disk_act}
use Rattle.vd_model.specs.Turn.{Turn}
use Rattle.vd_model.specs.Block as block
use Rattle.vd_model.specs.DaemonTurns.{walk_turn, execute_turn}
use Rattle.vd_model.specs.declared.step.DevStep.{DevStep}
use Rattle.vd_model.specs.Deeds.{Seen}
use Rattle.vd_model.specs.History.{dev_turn}
use Rattle.vd_line_acts.specs.LineActs.{is_device_line_act, is_execute_act}
use Rattle.vd_line_acts.proofs.Passing.{wider}
use Rattle.vd_line_acts.proofs.DeviceLines.{device_line}
use Rattle.vd_line_acts.proofs.DaemonLines.{walk_none, execute_line}
use Rattle.vd_ring_laws.proofs.Drivers.{is_driver, are_driver}

-- the act is none on a queue's ring, and takes no step of the block daemon's position
abbrev pub is_mild : Act → Bool
is_mild (Queue (Executed q status bytes)) = true
is_mild (Queue act) = false
is_mild _ = true

abbrev pub are_mild : List Act → Bool
are_mild acts = list_all is_mild acts

abbrev pub Mild : Turn Act → Type 0
Mild turn = are_mild turn.acts ≡ true

-- ---- the driver

driver_is_mild : (act : Act) → is_driver act ≡ true → is_mild act ≡ true
driver_is_mild (Driver act) e = refl
driver_is_mild _ e = cc

pub drivers_are_mild : (acts : List Act) → are_driver acts ≡ true → are_mild acts ≡ true
drivers_are_mild acts e = wider is_driver is_mild driver_is_mild acts e

-- ---- a line on a device

device_is_mild : (act : Act) → is_device_line_act act ≡ true → is_mild act ≡ true
device_is_mild (Queue act) e = cc
device_is_mild _ e = refl

pub dev_mild : (x : Setting) (made : Creation) (s : Seen) (step : DevStep) → Mild (dev_turn x made s step)
dev_mild x made s step = wider is_device_line_act is_mild device_is_mild (dev_turn x made s step).acts (device_line x made s step)

-- ---- the block daemon

pub walk_mild : (x : Setting) (made : Creation) (done : List Act) (q head : ℕ) → Mild (walk_turn x made done q head)
walk_mild x made done q head = ap are_mild (walk_none x made done q head)

execute_is_mild : (act : Act) → is_execute_act act ≡ true → is_mild act ≡ true
execute_is_mild (Disk_act act) e = refl
execute_is_mild (Queue (Executed q status bytes)) e = refl
execute_is_mild _ e = cc

pub execute_mild : (x : Setting) (made : Creation) (disk : block.Disk) (failed : Bool) (done : List Act) (q : ℕ) → Mild (execute_turn x made disk failed done q)
execute_mild x made disk failed done q = wider is_execute_act is_mild execute_is_mild (execute_turn x made disk failed done q).acts (execute_line x made disk failed done q)
