-- A device's memory, over the pool that its frames were taken from, stands for the acts of the device.
use Rattle.std.specs.Prelude.{ℕ, ◌≡◌, ◌+◌, ◌<◌, ◌≤◌, ◌++◌, List, Some, All}
use Rattle.vd_pool.specs.Memory.{PoolMemory as Pool}
use Rattle.vd_bounce.specs.Frames.{Holds}
use Rattle.vd_model.specs.Setting.{Setting}
use Rattle.vd_model.specs.Acts.{Act, Streaming}
use Rattle.vd_model.specs.Live.{live_mappings, buffer_len}
use Rattle.vd_domain.specs.Stands as domain
use Rattle.vd_buffers.specs.Stands as buffers
use Rattle.vd_memory_lines.specs.declared.memory.Memory.{Memory}

-- a mapping has bytes, and its range lies in its buffer, which is there
pub record IsInside (acts : List Act) (m : Streaming) : Type 0 where
  pub some : 0 < m.want.len
  pub size : ℕ
  pub there : buffer_len acts m.want.buffer ≡ Some size
  pub within : m.want.offset + m.want.len ≤ size

pub record Stands (x : Setting) (acts : List Act) (k : Memory) (m : Pool) : Type 0 where
  pub domain : domain.Stands x acts k.domain m
  pub buffers : buffers.Stands x.per_page acts k.buffers
  pub inside : All (IsInside acts) (live_mappings acts)

-- some acts are those that it stands for
pub record IsReached (k : Memory) (m : Pool) : Type 0 where
  pub setting : Setting
  pub acts : List Act
  pub stands : Stands setting acts k m

-- its frames are out of the pool
pub record IsHeld (k : Memory) (m : Pool) : Type 0 where
  pub holds : Holds k.domain.bounce.frames m
  pub size : m.per_page ≡ k.domain.bounce.per_page

-- it stands for these acts after those before
abbrev pub After : Setting → List Act → Memory → Pool → List Act → Type 0
After x done k m acts = Stands x (acts ++ done) k m
