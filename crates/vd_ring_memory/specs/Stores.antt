-- A store that may fail, by the acts.
use Rattle.std.specs.Prelude.{ℕ, ◌≡◌, ◌++◌, List, Result, Ok, Err}
use Rattle.vd_num.specs.declared.number.Bus.{Bus}
use Rattle.vd_pool.specs.Memory.{PoolMemory as Pool}
use Rattle.vd_model.specs.Setting.{Setting}
use Rattle.vd_model.specs.Acts.{Act}
use Rattle.vd_model.specs.Memory.{read}
use Rattle.vd_model.specs.DaemonTurns.{daemon_memory}
use Rattle.vd_domain.specs.Held.{Held}
use Rattle.vd_domain.specs.Stands.{Stands}

-- done, it stands for these puts; else the address at which a read fails is answered, and it stands as before
abbrev pub Accepts : Setting → List Act → List Act → ℕ → ℕ → Held → Pool → Result (Unit {0}) Bus → Type 0
Accepts x acts puts at n k m (Ok _) = Stands x (puts ++ acts) k m
Accepts x acts puts at n k m (Err bus) = (read (daemon_memory x acts) at n ≡ Err bus.at) × Stands x acts k m
