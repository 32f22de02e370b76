-- What lines are answered on a queue, from some lists on.
use Rattle.std.specs.Prelude.{ℕ, ◌≡◌, Bool, List, take, is_some}
use Rattle.std.specs.List.{concat}
use Rattle.vd_turns.specs.Turns.{RepliesFollow}
use Rattle.vr_pair.specs.QueueLists.{QueueLists}
use Rattle.vr_pair.specs.QueueLines.{queue_reading, queue_replies, turn_of}

-- the line is in the grammar of the queue program
abbrev pub is_queue_line : List ℕ → Bool
is_queue_line line = is_some (queue_reading line)

-- the lists after a line, and its reply
abbrev pub lists_after : QueueLists → List ℕ → QueueLists
lists_after q line = (turn_of q (queue_reading line)).lists

abbrev pub reply_after : QueueLists → List ℕ → List ℕ
reply_after q line = (turn_of q (queue_reading line)).reply

-- from these lists on some lines were answered by these replies, and a queue stands for the lists to which that has led
pub record HasLed (q : QueueLists) (done replies : List (List ℕ)) (stands : QueueLists → Type 0) : Type 0 where
  pub now : QueueLists
  pub follows : RepliesFollow lists_after reply_after q done replies now
  pub stood : stands now

-- these are the replies to some lines, to each of their fronts too
abbrev pub AreReplies : QueueLists → (done replies : List (List ℕ)) → Type 0
AreReplies q done replies = (k : ℕ) → concat (take k replies) ≡ queue_replies q (take k done)
