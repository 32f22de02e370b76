-- What a driver's port knows of the memory that it lends.
use Rattle.std.specs.Prelude.{ℕ, ◌≡◌, ◌+◌, ◌<◌, ◌≤◌, List, length, Some}
use Rattle.std.specs.List.{All}
use Rattle.vd_pool.specs.Memory.{PoolMemory as Pool}
use Rattle.vd_model.specs.declared.memory.Want.{Want}
use Rattle.vd_model.specs.Setting.{Setting}
use Rattle.vd_model.specs.Acts.{Act}
use Rattle.vd_domain.specs.Apart.{AreApart}
use Rattle.vd_buffers.specs.Places.{Places, place_of}
use Rattle.vd_memory_lines.specs.declared.memory.Memory.{Memory}
use Rattle.vd_memory_lines.specs.Stands.{Stands}

-- some acts are those that it stands for
pub record IsReached (k : Memory) (m : Pool) : Type 0 where
  pub setting : Setting
  pub acts : List Act
  pub stands : Stands setting acts k m
  pub apart : AreApart setting acts

-- a range that has bytes lies in its buffer, which is there
pub record IsInBuffer (places : Places) (want : Want) : Type 0 where
  pub some : 0 < want.len
  pub bytes : List ℕ
  pub there : place_of places want.buffer ≡ Some bytes
  pub within : want.offset + want.len ≤ length bytes
