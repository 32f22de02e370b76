-- What a driver's port leaves of the memory that it lends.
use Rattle.std.specs.Prelude.{◌≡◌}
use Rattle.vd_pool.specs.Memory.{PoolMemory as Pool}
use Rattle.vd_bounce.specs.Frames.{Keeps}
use Rattle.vd_memory_lines.specs.declared.memory.Memory.{Memory}
use Rattle.vd_ring_memory.specs.RingPuts.{IsAfterRingPuts}

-- the frames of others stay, its own are in the pool, a page keeps its size, and no region is made
pub record KeepsMemory (old new : Memory) (before after : Pool) : Type 0 where
  pub kept : Keeps old.domain.bounce.frames new.domain.bounce.frames before after
  pub page : new.domain.bounce.per_page ≡ old.domain.bounce.per_page
  pub made : new.domain.made ≡ old.domain.made

-- puts into coherent memory alone were made
pub record IsAfterPuts (old new : Memory) (before after : Pool) : Type 0 where
  pub puts : IsAfterRingPuts old.domain new.domain
  pub rest : new ≡ record old { domain = new.domain }
  pub pool : after ≡ before
