-- What a driver's line on a queue leaves as it was.
use Rattle.std.specs.Prelude.{ℕ, ◌+◌, ◌≤◌, ◌≡◌}
use Rattle.vd_pool.specs.Memory.{PoolMemory as Pool}
use Rattle.vd_bounce.specs.Frames.{Keeps}
use Rattle.vd_instance.specs.declared.instance.Instance.{Instance}
use Rattle.vd_instance.specs.Stands.{frames, page_size}

-- the control path, the frames of others, and how long a page is; it makes four mappings and one region at most
pub record KeepsDriver (old new : Instance) (before after : Pool) : Type 0 where
  pub path : new.device.path ≡ old.device.path
  pub kept : Keeps (frames old) (frames new) before after
  pub page : page_size new ≡ page_size old
  pub maps : new.device.memory.domain.maps ≤ old.device.memory.domain.maps + 4
  pub made : new.device.memory.domain.made ≤ old.device.memory.domain.made + 1
