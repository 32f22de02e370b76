-- A device that is open, set up and on the bus.
use Rattle.std.proofs.Common.{◌≡◌, ◌<◌, true, refl, sym, ◌∙◌, nat_lt, arith, [], ◌∷◌, Result, Ok, Err, true≢false}
use Rattle.std.proofs.lemmas.Bool.Decides.{nat_tests}
use Rattle.vd_num.specs.declared.errno.Errno.{Errno}
use Rattle.vd_pool.specs.Memory.{PoolMemory as Pool}
use Rattle.vd_model.specs.Setting.{Setting}
use Rattle.vd_model.specs.Creation.{Creation}
use Rattle.vd_model.specs.Acts.{Node, Bus, State, Opened, Attached}
use Rattle.vd_model.specs.State.{Max_set, is_queue}
use Rattle.vd_model.specs.BusTurns.{shape_of}
use Rattle.vd_state.specs.Kept.{Kept}
use Rattle.vd_state.specs.Stands as state
use Rattle.vd_device.specs.declared.device.Device.{Device}
use Rattle.vd_device.specs.Stands as device
use Rattle.vd_device.proofs.Parts.{path_act}

pub readied : {x : Setting} {made : Creation} {d : Device} {m : Pool} (k : Kept) → device.Stands x made [] d m → state.Stands (shape_of made) (Max_set 0 256 ∷ []) k
    → device.Stands x made (Bus Attached ∷ State (Max_set 0 256) ∷ Node Opened ∷ []) (record d { path = record d.path { sessions = 1; opened = true; state = k; attached = true } }) m
readied {x} {made} {d} {m} k s h = record {
  path = record {
    messages = s.path.messages;
    state = h;
    config = record { bytes = s.path.config.bytes; size = s.path.config.size };
    opened = refl;
    sessions = refl;
    closings = s.path.closings;
    attached = refl;
  };
  memory =
      path_act x (State (Max_set 0 256) ∷ Node Opened ∷ []) d.memory m (Bus Attached) refl
      (path_act x (Node Opened ∷ []) d.memory m (State (Max_set 0 256)) refl
      (path_act x [] d.memory m (Node Opened) refl s.memory));
}

-- the first queue of a device that has one is there
pub max_set : (made : Creation) (r : Result (Unit {0}) Errno) (k : Kept) → 0 < made.queues → state.Does (shape_of made) [] (is_queue (shape_of made) 0) (Max_set 0 256) r k → state.Stands (shape_of made) (Max_set 0 256 ∷ []) k
max_set made (Ok u) k some h = h.1
max_set made (Err errno) k some h = (let there : nat_lt 0 made.queues ≡ true = grind (arith, nat_tests, some) in absurd (true≢false (sym there ∙ h.0)))
