-- A device, over the pool that its frames were taken from, stands for the acts that were done to it.
use Rattle.std.specs.Prelude.{ℕ, ◌≡◌, ◌≤◌, ◌++◌, List, Option}
use Rattle.vd_pool.specs.Memory.{PoolMemory as Pool}
use Rattle.vd_bounce.specs.Frames.{Holds, Keeps}
use Rattle.vd_model.specs.Setting.{Setting}
use Rattle.vd_model.specs.Creation.{Creation}
use Rattle.vd_model.specs.Acts.{Act}
use Rattle.vd_memory_lines.specs.Stands as memory
use Rattle.vd_control_path.specs.Stands as path
use Rattle.vd_device.specs.declared.device.Device.{Device}

pub record Stands (x : Setting) (made : Creation) (acts : List Act) (d : Device) (m : Pool) : Type 0 where
  pub path : path.PathBefore made acts d.path
  pub memory : memory.Stands x acts d.memory m

-- some acts are those that it stands for
pub record IsReached (d : Device) (m : Pool) : Type 0 where
  pub setting : Setting
  pub made : Creation
  pub acts : List Act
  pub stands : Stands setting made acts d m

-- the frames that it holds, page by page
abbrev pub frames : Device → List (Option ℕ)
frames d = d.memory.domain.bounce.frames

-- its frames are out of the pool, which has pages of its size
pub record IsHeld (d : Device) (m : Pool) : Type 0 where
  pub holds : Holds (frames d) m
  pub size : m.per_page ≡ d.memory.domain.bounce.per_page

-- no count is above this number
pub record IsWithin (most : ℕ) (d : Device) : Type 0 where
  pub path : path.IsWithin most d.path
  pub maps : d.memory.domain.maps ≤ most
  pub regions : d.memory.domain.made ≤ most

-- it stands for these acts after those before
abbrev pub After : Setting → Creation → List Act → Device → Pool → List Act → Type 0
After x made done d m acts = Stands x made (acts ++ done) d m

-- the frames of others stay, its own are in the pool, a page keeps its size, and each count rises by one at most
pub record KeepsOthers (old new : Device) (before after : Pool) : Type 0 where
  pub kept : Keeps (frames old) (frames new) before after
  pub page : new.memory.domain.bounce.per_page ≡ old.memory.domain.bounce.per_page
