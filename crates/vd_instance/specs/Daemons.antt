-- A block daemon that is kept of a queue stands for the acts as long as its position goes on.
use Rattle.std.specs.Prelude.{ℕ, ◌≡◌, ◌≤◌, ◌==◌, List, if◌then◌else◌, Some, slice_get}
use Rattle.vd_model.specs.Setting.{Setting}
use Rattle.vd_model.specs.Acts.{Act}
use Rattle.vd_control_path.specs.Ends.{ends_of}
use Rattle.blk_daemon.specs.Held.{Held, idle}
use Rattle.vd_daemon_lines.specs.Stands.{DaemonStands}
use Rattle.vd_instance.specs.declared.daemons.HeldDaemon.{HeldDaemon}

-- a daemon of a device of this name, with no position
abbrev pub new_daemon : List ℕ → HeldDaemon
new_daemon name = record { daemon = idle name; ends = 0 }

-- the daemon after so many ends of positions: as it is kept, if none ended since it was kept, and else with no position
abbrev pub daemon_at : ℕ → HeldDaemon → Held
daemon_at ends kept = if kept.ends == ends then kept.daemon else idle kept.daemon.name

pub record DaemonHolds (x : Setting) (acts : List Act) (q : ℕ) (kept : HeldDaemon) : Type 0 where
  pub counted : kept.ends ≤ ends_of acts q
  pub stands : DaemonStands x acts q (daemon_at (ends_of acts q) kept)

-- each queue's daemon does so
abbrev pub DaemonsHold : Setting → List Act → List HeldDaemon → Type 0
DaemonsHold x acts kept = (q : ℕ) (d : HeldDaemon) → slice_get kept q ≡ Some d → DaemonHolds x acts q d

-- each has this name
abbrev pub AreNamed : List ℕ → List HeldDaemon → Type 0
AreNamed name kept = (q : ℕ) (d : HeldDaemon) → slice_get kept q ≡ Some d → d.daemon.name ≡ name
