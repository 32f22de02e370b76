-- The reply to a step.
use Rattle.std.specs.Prelude.{ℕ, List, ◌++◌, ◌≡◌}
use Rattle.vd_vhost_model.specs.GuestTable.{VhostAct}
use Rattle.vd_vhost_model.specs.VhostTurns.{VhostTurn}
use Rattle.vd_vhost_model.specs.VhostLines.{vhost_reply_line}
use Rattle.vd_vhost.specs.After.{BusParts, IsAfter}

-- the reply is the line of the turn's answer, and the bus stands for the turn's acts too
pub record Replied (size : ℕ) (done : List VhostAct) (turn : VhostTurn) (bus : BusParts) (reply : List ℕ) : Type 0 where
  pub reply_is : reply ≡ vhost_reply_line turn.answer
  pub stands : IsAfter size (turn.acts ++ done) bus
