-- What acts store in an image, and what a block daemon and its image stand for after an execution.
use Rattle.std.specs.Prelude.{ℕ, ◌≡◌, ◌+◌, ◌*◌, ◌==◌, List, [], ◌∷◌, ◌++◌, length, take, drop, Bool, true, false, Option, IsSome}
use Rattle.std.specs.List.{list_all}
use Rattle.std.specs.Option.{option_map}
use Rattle.vd_model.specs.declared.memory.Window.{Window}
use Rattle.vd_model.specs.Setting.{Setting}
use Rattle.vd_model.specs.Acts.{Act, Queue, Executed, Disk_act, Stored}
use Rattle.blk_daemon.specs.Held.{Held}
use Rattle.vd_daemon_lines.specs.Stands.{DaemonStands}

-- the content with these bytes in place of those from an offset on
abbrev pub with_bytes : ℕ → List ℕ → List ℕ → List ℕ
with_bytes at bytes content = take at content ++ bytes ++ drop (at + length bytes) content

-- an image's content after the stores of these acts in its window, the newest act first
abbrev pub stored_over : Window → List Act → List ℕ → List ℕ
stored_over w [] content = content
stored_over w (Disk_act (Stored at bytes) ∷ acts) content = with_bytes (512 * w.first + at) bytes (stored_over w acts content)
stored_over w (_ ∷ acts) content = stored_over w acts content

-- The daemon stands for these acts after those before the line, where the image tells what it read; a told content has what
-- they store.
pub record AfterDisk (x : Setting) (done : List Act) (q : ℕ) (w : Window) (old new : Option (List ℕ)) (kept : Held) (acts : List Act) : Type 0 where
  pub daemon : IsSome old → DaemonStands x (acts ++ done) q kept
  pub content : new ≡ option_map (stored_over w acts) old

-- an execution on the queue
abbrev pub is_execution : ℕ → Act → Bool
is_execution q (Queue (Executed k status bytes)) = k == q
is_execution q _ = false

-- whatever the image tells, the daemon stands for these acts and, where something was executed, an execution more
pub record GoesOn (x : Setting) (acts : List Act) (q : ℕ) (daemon : Held) : Type 0 where
  pub more : List Act
  pub only : list_all (is_execution q) more ≡ true
  pub stands : DaemonStands x (more ++ acts) q daemon
