-- A line on one part of a device leaves the other as it is.
use Rattle.std.proofs.Common.{◌≡◌, ℕ, ◌+◌, ◌≤◌, arith, Bool, true, false, refl, sym, ◌∙◌, List, [], ◌∷◌, ◌++◌, ◌&&◌, true≢false, subst, Option}
use Rattle.std.specs.List.{list_all}
use Rattle.vd_pool.specs.Memory.{PoolMemory as Pool}
use Rattle.vd_bounce.specs.Frames.{Keeps}
use Rattle.vd_bounce.proofs.Kept.{keeps_none}
use Rattle.vd_model.specs.Setting.{Setting}
use Rattle.vd_model.specs.Creation.{Creation}
use Rattle.vd_model.specs.Acts.{Act, NodeAct, Message_act, State, Bus, Queue, Disk_act, Node, Driver, Opened, Closed, Daemon_put, Area_made, Area_put, Config_put, Registered, Deregistered}
use Rattle.vd_model.specs.State.{StateAct, Max_set, Status_set, Features_set, Num_set, Addr_set, Ready_set, Avail_set, Kick_file_set, Kicked, Kicks_taken, Callback_set, Injected, Interrupts_taken, Cleared}
use Rattle.vd_model.specs.Live.{live_mappings}
use Rattle.vd_domain.specs.Beside.{is_beside}
use Rattle.vd_domain.proofs.Beside.{leaves_domain}
use Rattle.vd_buffers.specs.Stands.{is_buffer_act}
use Rattle.vd_memory_lines.specs.declared.memory.Memory.{Memory}
use Rattle.vd_memory_lines.specs.Rest.{KeepsRest, KeepsFrames}
use Rattle.vd_memory_lines.specs.Stands as memory
use Rattle.vd_memory_lines.proofs.Parts.{domain_act}
use Rattle.vd_control_path.specs.declared.path.ControlPath.{ControlPath}
use Rattle.vd_control_path.specs.Acts.{is_path_act, is_memory_act}
use Rattle.vd_control_path.specs.Stands as path
use Rattle.vd_control_path.proofs.Parts as path_parts
use Rattle.vd_device.specs.declared.device.Device.{Device}
use Rattle.vd_device.specs.Stands.{Stands, IsHeld, IsWithin, KeepsOthers}

both_of : (a b : Bool) → (a && b) ≡ true → (a ≡ true) × (b ≡ true)
both_of true b e = (refl, e)
both_of false b e = absurd (true≢false (sym e))

no : {X : Type 0} → false ≡ true → X
no e = absurd (true≢false (sym e))

-- ---- acts on the control path

path_beside : (act : Act) → is_path_act act ≡ true → is_beside act ≡ true
path_beside (Message_act act) e = refl
path_beside (Bus act) e = refl
path_beside (State act) e = by act e where
  by : (act : StateAct) → is_path_act (State act) ≡ true → is_beside (State act) ≡ true
  by Cleared e = e
  by (Max_set q max) e = refl
  by (Status_set v) e = refl
  by (Features_set v) e = refl
  by (Num_set q n) e = refl
  by (Addr_set q a b c) e = refl
  by (Ready_set q r) e = refl
  by (Avail_set q n) e = refl
  by (Kick_file_set q on) e = refl
  by (Kicked q) e = refl
  by (Kicks_taken q) e = refl
  by (Callback_set on set) e = refl
  by (Injected on) e = refl
  by (Interrupts_taken on) e = refl
path_beside (Node act) e = by act e where
  by : (act : NodeAct) → is_path_act (Node act) ≡ true → is_beside (Node act) ≡ true
  by Opened e = refl
  by (Config_put at bytes) e = refl
  by Closed e = no e
  by (Daemon_put at bytes) e = no e
  by (Area_made len) e = no e
  by (Area_put at bytes) e = no e
  by (Registered base size) e = no e
  by Deregistered e = no e
path_beside (Queue act) e = no e
path_beside (Disk_act act) e = no e
path_beside (Driver act) e = no e

no_buffer : (act : Act) → is_path_act act ≡ true → is_buffer_act act ≡ false
no_buffer (Message_act act) e = refl
no_buffer (State act) e = refl
no_buffer (Bus act) e = refl
no_buffer (Queue act) e = refl
no_buffer (Disk_act act) e = refl
no_buffer (Node act) e = refl
no_buffer (Driver act) e = no e

no_mapping : (act : Act) (acts : List Act) → is_path_act act ≡ true → live_mappings (act ∷ acts) ≡ live_mappings acts
no_mapping (Message_act act) acts e = refl
no_mapping (State act) acts e = refl
no_mapping (Bus act) acts e = refl
no_mapping (Queue act) acts e = refl
no_mapping (Disk_act act) acts e = refl
no_mapping (Node act) acts e = refl
no_mapping (Driver act) acts e = no e

-- the memory stands as it is
pub path_act : (x : Setting) (acts : List Act) (k : Memory) (m : Pool) (act : Act) → is_path_act act ≡ true → memory.Stands x acts k m → memory.Stands x (act ∷ acts) k m
path_act x acts k m act e s = domain_act x acts k m s act k.domain m (no_buffer act e) (no_mapping act acts e) (leaves_domain x acts k.domain m s.domain act (path_beside act e))

path_acts : (x : Setting) (k : Memory) (m : Pool) (acts done : List Act) → list_all is_path_act acts ≡ true → memory.Stands x done k m → memory.Stands x (acts ++ done) k m
path_acts x k m [] done e s = s
path_acts x k m (act ∷ acts) done e s =
    let parts = both_of (is_path_act act) (list_all is_path_act acts) e in
    path_act x (acts ++ done) k m act parts.0 (path_acts x k m acts done parts.1 s)

-- ---- a line on one part

pub path_line : {x : Setting} {made : Creation} {done : List Act} {d : Device} {m : Pool} (p : ControlPath) (acts : List Act) → Stands x made done d m
    → path.PathAfter made done p acts → Stands x made (acts ++ done) (record d { path = p }) m
path_line {x} {made} {done} {d} {m} p acts s a = record { path = a.stands; memory = path_acts x d.memory m acts done a.only s.memory }

pub memory_line : {x : Setting} {made : Creation} {done : List Act} {d : Device} {m n : Pool} (k : Memory) (acts : List Act) → list_all is_memory_act acts ≡ true → Stands x made done d m
    → memory.Stands x (acts ++ done) k n → Stands x made (acts ++ done) (record d { memory = k }) n
memory_line k acts only s h = record { path = path_parts.memory_line acts only s.path; memory = h }

-- ---- what a line leaves

-- a memory that is as it was
pub frames_stay : (k : Memory) → KeepsFrames k k
frames_stay k = record { frames = refl; page = refl; maps = omega arith; made = omega arith }

pub rest_stays : (k : Memory) (m : Pool) → memory.IsHeld k m → KeepsRest k k m m
rest_stays k m h = record { kept = keeps_none h.holds; page = refl; maps = omega arith; made = omega arith }

pub frames_kept : {old new : Memory} {m : Pool} → memory.IsHeld old m → KeepsFrames old new → KeepsRest old new m m
frames_kept {old} {new} {m} h r = record {
  kept = subst (λ (frames : List (Option ℕ)). Keeps old.domain.bounce.frames frames m m) (sym r.frames) (keeps_none h.holds);
  page = r.page;
  maps = r.maps;
  made = r.made;
}

pub others_kept : (old new : Device) (before after : Pool) → KeepsRest old.memory new.memory before after → KeepsOthers old new before after
others_kept old new before after r = record { kept = r.kept; page = r.page }

pub within_rest : (most : ℕ) (old new : Device) (before after : Pool) → KeepsRest old.memory new.memory before after → IsWithin most old → path.IsWithin (most + 1) new.path → IsWithin (most + 1) new
within_rest most old new before after r w p = record {
  path = p;
  maps = (let h = r.maps in let g = w.maps in omega arith);
  regions = (let h = r.made in let g = w.regions in omega arith);
}

-- its frames are out of the pool still
pub held_after : {old new : Device} {before after : Pool} → IsHeld old before → KeepsOthers old new before after → IsHeld new after
held_after h r = record { holds = r.kept.holds; size = r.kept.size ∙ h.size ∙ sym r.page }

-- counts within a number are within a greater one
pub within_later : (least most : ℕ) (d : Device) → least ≤ most → IsWithin least d → IsWithin most d
within_later least most d le w = record {
  path = path_parts.within_later least most d.path le w.path;
  maps = (let h = w.maps in omega arith);
  regions = (let h = w.regions in omega arith);
}
