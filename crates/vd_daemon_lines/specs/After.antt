-- What a domain and a block daemon stand for after a line.
use Rattle.std.specs.Prelude.{ℕ, List, ◌++◌}
use Rattle.vd_pool.specs.Memory.{PoolMemory as Pool}
use Rattle.vd_model.specs.Setting.{Setting}
use Rattle.vd_model.specs.Acts.{Act}
use Rattle.vd_domain.specs.Held.{Held as Domain}
use Rattle.vd_domain.specs.Stands.{Stands}
use Rattle.blk_daemon.specs.Held.{Held}
use Rattle.vd_daemon_lines.specs.Stands.{DaemonStands}

-- both stand for these acts after those before the line
pub record After (x : Setting) (done : List Act) (q : ℕ) (h : Domain) (m : Pool) (kept : Held) (acts : List Act) : Type 0 where
  pub domain : Stands x (acts ++ done) h m
  pub daemon : DaemonStands x (acts ++ done) q kept
