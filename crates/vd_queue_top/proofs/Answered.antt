-- What the answer to a line tells.
use Rattle.std.proofs.Common.{◌≡◌, ℕ, ◌⊎◌, Bool, true, false, refl, ap, inl, inr, List, Option, Some, None, Ok, Err}
use Rattle.std.specs.Prelude.{is_some}
use Rattle.vd_words.specs.declared.error.LineError.TheVariants.{Bad, Memory}
use Rattle.vr_pair.specs.QueueLists.{QueueLists}
use Rattle.vr_pair.specs.QueueLines.{queue_reading}
use Rattle.vr_queue.specs.Answers.{AnswersLine}
use Rattle.vd_queue_top.specs.Replies.{is_queue_line, lists_after}

module _ (q : QueueLists) (line reply : List ℕ) (after : QueueLists → Type 0) where
  pub reads_told : AnswersLine q line (Ok tt) reply after → is_queue_line line ≡ true
  reads_told a = a.0

  pub reads_bad : AnswersLine q line (Err Bad) reply after → is_queue_line line ≡ false
  reads_bad a = ap is_some a.0

  -- after want of memory the queue stands for the lists before the line, or for those after it
  pub stands_short : AnswersLine q line (Err Memory) reply after → (now : QueueLists) × after now
  stands_short (inl same) = (q, same)
  stands_short (inr moved) = (lists_after q line, moved)
