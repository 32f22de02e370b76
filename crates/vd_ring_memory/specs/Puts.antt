-- A domain after puts alone.
use Rattle.std.specs.Prelude.{ℕ, ◌≡◌, ◌+◌, ◌<◌, ◌≤◌, List, [], ◌∷◌, ◌++◌, length, true}
use Rattle.vd_pool.specs.Memory.{PoolMemory as Pool}
use Rattle.vd_bounce.specs.Frames.{Keeps}
use Rattle.vd_model.specs.Setting.{Setting}
use Rattle.vd_model.specs.Acts.{Act, Node, Daemon_put}
use Rattle.vd_model.specs.AreaTurns.{is_accessible}
use Rattle.vd_domain.specs.Held.{Held, SameCounts}
use Rattle.vd_domain.specs.Stands.{Stands}

-- a put of the daemon at addresses that it can access
abbrev pub IsDaemonPut : Setting → List Act → Act → Type 0
IsDaemonPut x done (Node (Daemon_put at bytes)) = (a : ℕ) → at ≤ a → a < at + length bytes → is_accessible x done a ≡ true
IsDaemonPut x done _ = ⊥

-- each of these acts is one; puts leave alone what can be accessed
abbrev pub AreDaemonPuts : Setting → List Act → List Act → Type 0
AreDaemonPuts x done [] = Unit {0}
AreDaemonPuts x done (act ∷ puts) = IsDaemonPut x done act × AreDaemonPuts x done puts

-- the domain stands for such puts after the acts
pub record PutsAfter (x : Setting) (done : List Act) (h : Held) (m : Pool) : Type 0 where
  pub puts : List Act
  pub only : AreDaemonPuts x done puts
  pub stands : Stands x (puts ++ done) h m

-- whatever acts a domain stands for, another stands for puts after them; frames of others, its page size and its counts are kept
pub record IsAfterPuts (h : Held) (m : Pool) (k : Held) (n : Pool) : Type 0 where
  pub after : (x : Setting) (done : List Act) → Stands x done h m → PutsAfter x done k n
  pub kept : Keeps h.bounce.frames k.bounce.frames m n
  pub counts : SameCounts h k

-- some acts are those that it stands for
pub record IsReached (h : Held) (m : Pool) : Type 0 where
  pub setting : Setting
  pub acts : List Act
  pub stands : Stands setting acts h m
