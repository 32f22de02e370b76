-- What a line leaves as it was.
use Rattle.std.specs.Prelude.{◌+◌, ◌≤◌, ◌≡◌}
use Rattle.vd_pool.specs.Memory.{PoolMemory as Pool}
use Rattle.vd_bounce.specs.Frames.{Keeps}
use Rattle.vd_memory_lines.specs.declared.memory.Memory.{Memory}

-- the frames of others stay, its own are in the pool, a page keeps its size, and each count rises by one at most
pub record KeepsRest (old new : Memory) (before after : Pool) : Type 0 where
  pub kept : Keeps old.domain.bounce.frames new.domain.bounce.frames before after
  pub page : new.domain.bounce.per_page ≡ old.domain.bounce.per_page
  pub maps : new.domain.maps ≤ old.domain.maps + 1
  pub made : new.domain.made ≤ old.domain.made + 1

-- the same of a line that takes no frame of the pool and gives none back
pub record KeepsFrames (old new : Memory) : Type 0 where
  pub frames : new.domain.bounce.frames ≡ old.domain.bounce.frames
  pub page : new.domain.bounce.per_page ≡ old.domain.bounce.per_page
  pub maps : new.domain.maps ≤ old.domain.maps + 1
  pub made : new.domain.made ≤ old.domain.made + 1
