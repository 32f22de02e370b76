-- How a run on a queue to which nothing was added ends, and the words that ask for one.
use Rattle.std.specs.Prelude.{ℕ, ◌≡◌, ◌<◌, ◌≤◌, Bool, true, false, List, Option, Some, None}
use Rattle.std.specs.Option.{option_map}
use Rattle.vd_output.specs.Out.{good_lines_in}
use Rattle.vd_options.specs.Programs.{asked_queue}
use Rattle.vd_loop.specs.Outs.{TextStops, TextWrites}
use Rattle.vd_loop.specs.Statuses.{is_line_status, is_status, stop_of_status}
use Rattle.vd_loop.specs.declared.ended.Ended.{Ended}
use Rattle.vr_pair.specs.QueueLists.{empty_lists}
use Rattle.vd_loop.specs.Written.{Appended}
use Rattle.vr_pair.specs.QueueLines.{QueueOut, queue_replies}
use Rattle.vd_queue_top.specs.Replies.{is_queue_line}

-- A run on a queue of this size has no other status than those of a run of lines, and a line only where one stopped it. Of
-- the text that was told it says where it stopped, with what is left of it, and what a sink holds more than before; at status 0 these are the replies to the whole text.
pub record QueueRan (size : ℕ) (ended : Ended) (told left old new : Option (List ℕ)) : Type 0 where
  pub known : is_status ended.status ≡ true
  pub no_line : is_line_status ended.status ≡ false → ended.line ≡ 0
  pub stopped : (text : List ℕ) → told ≡ Some text → TextStops is_queue_line text (stop_of_status ended.status) ended.line ended.lines_done left
  pub written : (text : List ℕ) → told ≡ Some text
      → TextWrites (queue_replies (empty_lists size)) (good_lines_in is_queue_line text) (stop_of_status ended.status) ended.lines_done old new
  pub whole : (text : List ℕ) → told ≡ Some text → ended.status ≡ 0 → Appended old new (QueueOut size text)

-- the size of the queue that words ask for, whatever ring it has
abbrev pub asked_size : List (List ℕ) → Option ℕ
asked_size words = option_map (λ asked. asked.size) (asked_queue words)

-- words ask for a queue of this size, and this text is told
pub record IsGiven (words : List (List ℕ)) (size : ℕ) (left : Option (List ℕ)) (text : List ℕ) : Type 0 where
  pub asked : asked_size words ≡ Some size
  pub told : left ≡ Some text
