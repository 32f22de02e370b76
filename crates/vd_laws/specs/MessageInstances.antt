-- The law of messages is met: small histories in which each part of it says something.
use Rattle.std.specs.Prelude.{[], ◌∷◌, true, false, ◌≡◌}
use Rattle.vd_num.specs.declared.errno.Errno.TheVariants.{Noent}
use Rattle.vd_model.specs.declared.answer.Tag.TheVariants.{Id, Status}
use Rattle.vd_model.specs.declared.answer.Item.TheVariants.{Word, Number}
use Rattle.vd_model.specs.declared.answer.Answer.TheVariants.{Done, Err, FailedReply, FailedTimeout}
use Rattle.vd_model.specs.Messages.{is_held}
use Rattle.vd_model.specs.History.{History, reply}
use Rattle.vd_laws.specs.MessageLaw.{message_acts_of}
use Rattle.vd_laws.specs.Small.{small_setting, v, history_of, dev, tick, open_node, close_node, recv, answer, setstatus, timeout, take}

-- a status was sent, and the session received it
abbrev pub one_held : History
one_held = history_of (recv v ∷ setstatus v 1 ∷ dev v ∷ [])

-- and then the session was closed, and another one opened
abbrev pub reopened : History
reopened = history_of (open_node v ∷ close_node v ∷ recv v ∷ setstatus v 1 ∷ dev v ∷ [])

pub record MessageInstances : Type 0 where
  -- an id that is held is requeued by a close, and comes again
  pub held : is_held (message_acts_of small_setting one_held v) 0 ≡ true
  pub requeued : is_held (message_acts_of small_setting reopened v) 0 ≡ false
  pub comes_again : reply small_setting reopened (recv v) false ≡ Done (Word Id ∷ Number 0 ∷ Word Status ∷ Number 1 ∷ [])
  -- the second answer to an id is refused
  pub answered : reply small_setting one_held (answer v 0 0) false ≡ Done []
  pub answered_twice : reply small_setting (history_of (answer v 0 0 ∷ recv v ∷ setstatus v 1 ∷ dev v ∷ [])) (answer v 0 0) false ≡ Err Noent
  -- an answer of result 5 fails the message
  pub replied : reply small_setting (history_of (answer v 0 5 ∷ recv v ∷ setstatus v 1 ∷ dev v ∷ [])) (take v 0) false ≡ FailedReply 5
  -- at 20 seconds the message of 10 seconds and that of 5 seconds are due, and both fail by the deadline 5
  pub late : reply small_setting (history_of (tick 20 ∷ setstatus v 2 ∷ timeout v 5 ∷ setstatus v 1 ∷ timeout v 10 ∷ dev v ∷ [])) (take v 0) false ≡ FailedTimeout 5 20
