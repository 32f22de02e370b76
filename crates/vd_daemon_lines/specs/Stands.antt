-- What a block daemon keeps of a queue stands for the acts on it.
use Rattle.std.specs.Prelude.{ℕ, ◌≡◌, List, Option, IfSome}
use Rattle.std.specs.Option.{option_map}
use Rattle.vd_model.specs.Setting.{Setting}
use Rattle.vd_model.specs.Acts.{Act}
use Rattle.vd_model.specs.Queues.{Execution}
use Rattle.vd_model.specs.DaemonTurns.{Hand}
use Rattle.vd_queue_sides.specs.Daemon as queue_sides
use Rattle.blk_daemon.specs.Held.{Held}

-- the request in hand
abbrev pub hand_in : Held → Option Hand
hand_in daemon = option_map (λ r. r.hand) daemon.request

-- its side and its request in hand are those of the acts; how it ended is kept as long as it is in hand
pub record DaemonStands (x : Setting) (acts : List Act) (q : ℕ) (daemon : Held) : Type 0 where
  pub ended : Option Execution
  pub sides : queue_sides.DaemonStands x acts q daemon.side (hand_in daemon) ended
  pub outcome : IfSome daemon.request (λ r. r.outcome ≡ ended)
