-- Which acts the lines of a device's node, area, bus and driver make.
use Rattle.std.proofs.Common.{◌≡◌, true, refl, not}
use Rattle.vd_num.specs.declared.errno.Errno.TheVariants.{Badf, Busy, Nodev}
use Rattle.vd_model.specs.declared.step.DevStep.{DevStep}
use Rattle.vd_model.specs.declared.step.DevStep.TheVariants as line
use Rattle.vd_model.specs.Setting.{Setting}
use Rattle.vd_model.specs.Creation.{Creation}
use Rattle.vd_model.specs.Acts.{Act, Node, Driver, Queue, Disk_act}
use Rattle.vd_model.specs.Live.{is_open, is_attached}
use Rattle.vd_model.specs.Turn.{refusal_if, lift}
use Rattle.vd_model.specs.AreaTurns.{area_turn}
use Rattle.vd_model.specs.BusTurns.{bus_turn}
use Rattle.vd_model.specs.DriverTurns.{driver_turn}
use Rattle.vd_model.specs.NodeTurns.{node_turn}
use Rattle.vd_model.specs.Deeds.{Seen}
use Rattle.vd_model.specs.History.{is_kept, needs_unkept, dev_turn}
use Rattle.vd_line_acts.specs.LineActs.{is_bus_line_act, is_node_line_act, is_device_line_act}
use Rattle.vd_line_acts.proofs.Passing.{Passes, wider, lifted_pass, refuse_passes}
use Rattle.vd_line_acts.proofs.BusLines.{bus_line}
use Rattle.vd_line_acts.proofs.NodeLines.{node_line}

bus_is : (act : Act) → is_bus_line_act act ≡ true → is_device_line_act act ≡ true
bus_is (Queue act) e = cc
bus_is (Disk_act act) e = cc
bus_is _ e = refl

node_is : (act : Act) → is_node_line_act act ≡ true → is_device_line_act act ≡ true
node_is (Queue act) e = cc
node_is (Disk_act act) e = cc
node_is _ e = refl

pub device_line : (x : Setting) (made : Creation) (s : Seen) (step : DevStep) → Passes is_device_line_act (dev_turn x made s step)
device_line x made s (line.Node step) = wider is_node_line_act is_device_line_act node_is (node_turn x made s.acts step).acts (node_line x made s.acts step)
device_line x made s (line.Area step) =
    refuse_passes is_device_line_act (refusal_if (not (is_open s.acts)) Badf) (lift Node (area_turn x s.acts step)) (lifted_pass is_device_line_act Node (λ act. refl) (area_turn x s.acts step).acts)
device_line x made s (line.Bus step) = wider is_bus_line_act is_device_line_act bus_is (bus_turn made s.now s.acts step).acts (bus_line made s.now s.acts step)
device_line x made s (line.Driver step) =
    refuse_passes is_device_line_act (refusal_if (not (is_attached s.acts)) Nodev) (needs_unkept made s.acts step (lift Driver (driver_turn x s.acts step)))
    (refuse_passes is_device_line_act (refusal_if (is_kept made s.acts step) Busy) (lift Driver (driver_turn x s.acts step)) (lifted_pass is_device_line_act Driver (λ act. refl) (driver_turn x s.acts step).acts))
