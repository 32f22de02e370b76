-- What a driver's line on a queue leaves, and how far its counts rise.
use Rattle.std.proofs.Common.{◌≡◌, ℕ, ◌+◌, ◌*◌, ◌≤◌, ◌<◌, ◌^◌, ◌-◌, arith, refl, sym, subst}
use Rattle.vd_pool.specs.Memory.{PoolMemory as Pool}
use Rattle.vd_bounce.proofs.Kept.{keeps_none}
use Rattle.vd_control_path.specs.declared.path.ControlPath.{ControlPath}
use Rattle.vd_control_path.specs.Stands as path
use Rattle.vd_control_path.proofs.Parts as path_parts
use Rattle.vd_memory_lines.specs.declared.memory.Memory.{Memory}
use Rattle.vd_memory_lines.specs.Stands as memory
use Rattle.vd_memory_lines.specs.Rest.{KeepsRest}
use Rattle.vd_device.specs.declared.device.Device.{Device}
use Rattle.vd_device.specs.Stands as device
use Rattle.vd_device.proofs.Parts.{within_later}
use Rattle.vd_instance.specs.declared.instance.Instance.{Instance}
use Rattle.vd_instance.specs.Stands.{IsHeld, IsWithin, KeepsOthers}
use Rattle.vd_instance.specs.Rest.{KeepsDriver}

-- a line that is refused
pub driver_rests : (i : Instance) (m : Pool) → IsHeld i m → KeepsDriver i i m m
driver_rests i m h = record { path = refl; kept = keeps_none h.holds; page = refl; maps = omega arith; made = omega arith }

pub others_rest : {old new : Instance} {before after : Pool} → KeepsDriver old new before after → KeepsOthers old new before after
others_rest r = record { kept = r.kept; page = r.page }

pub within_driver : (most : ℕ) (old new : Instance) (before after : Pool) → KeepsDriver old new before after → IsWithin most old → IsWithin (most + 1) new
within_driver most old new before after r w = record {
  path = subst (λ (p : ControlPath). path.IsWithin (4 * (most + 1)) p) (sym r.path) (path_parts.within_later (4 * most) (4 * (most + 1)) old.device.path (omega arith) w.path);
  maps = (let h = r.maps in let g = w.maps in omega arith);
  regions = (let h = r.made in let g = w.regions in omega arith);
}

pub within_kept : (most : ℕ) (old new : Instance) (before after : Pool) → KeepsRest old.device.memory new.device.memory before after → new.device.path ≡ old.device.path → IsWithin most old → IsWithin (most + 1) new
within_kept most old new before after r same w = record {
  path = subst (λ (p : ControlPath). path.IsWithin (4 * (most + 1)) p) (sym same) (path_parts.within_later (4 * most) (4 * (most + 1)) old.device.path (omega arith) w.path);
  maps = (let h = r.maps in let g = w.maps in omega arith);
  regions = (let h = r.made in let g = w.regions in omega arith);
}

-- counts after one line more
pub within_more : (most : ℕ) (i : Instance) → IsWithin most i → IsWithin (most + 1) i
within_more most i w = within_later (4 * most) (4 * (most + 1)) i.device (omega arith) w

-- the counts that a line of a device may have
pub device_room : (i : Instance) → IsWithin (2 ^ 59) i → device.IsWithin (2 ^ 62 - 1) i.device
device_room i w = within_later (4 * 2 ^ 59) (2 ^ 62 - 1) i.device (omega arith) w
