-- What a step leaves.
use Rattle.std.specs.Prelude.{ℕ, List, ◌++◌, ◌≡◌}
use Rattle.vd_vhost_model.specs.declared.step.VhostAnswer.{VhostAnswer}
use Rattle.vd_vhost_model.specs.GuestTable.{VhostAct}
use Rattle.vd_vhost_model.specs.VhostTurns.{VhostTurn}
use Rattle.vd_vhost.specs.After.{BusParts, IsAfter}

-- the turn's answer is given, and what is left stands for the turn's acts too
pub record Answers (size : ℕ) (done : List VhostAct) (turn : VhostTurn) (answer : VhostAnswer) (bus : BusParts) : Type 0 where
  pub answer_is : answer ≡ turn.answer
  pub stands : IsAfter size (turn.acts ++ done) bus
