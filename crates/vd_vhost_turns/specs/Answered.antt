-- What becomes of a line.
use Rattle.std.specs.Prelude.{ℕ, List, ◌≡◌, Bool, true, false, Option}
use Rattle.vd_vhost_model.specs.declared.step.VhostStep.{VhostStep}
use Rattle.vd_vhost_model.specs.GuestTable.{VhostAct}
use Rattle.vd_vhost_model.specs.VhostOut.{vhost_reply_to, done_after}
use Rattle.vd_vhost.specs.After.{BusParts, IsAfter}

-- what answers lines: its bus, and the reply to the last line
pub record Answering : Type 0 where
  pub bus : BusParts
  pub reply : List ℕ

-- the reply is the one that is due to what the line says, and the bus stands for what the line did too
pub record Replies (size : ℕ) (done : List VhostAct) (read : Option (Option VhostStep)) (new : Answering) : Type 0 where
  pub reply_is : new.reply ≡ vhost_reply_to size done read
  pub stands : IsAfter size (done_after size done read) new.bus

-- a line of the grammar was answered; at any other the bus is as before
abbrev pub Answered : ℕ → List VhostAct → Option (Option VhostStep) → BusParts → Answering → Bool → Type 0
Answered size done read old new true = Replies size done read new
Answered size done read old new false = new.bus ≡ old
