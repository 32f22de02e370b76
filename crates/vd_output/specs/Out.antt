-- What is written for a script.
use Rattle.std.specs.Prelude.{ℕ, ◌+◌, List, [], ◌∷◌, ◌++◌, ◌==◌, Bool, ◌&&◌, nat_lt, nat_le, if◌then◌else◌, Option, Some, is_some, length, take, drop}
use Rattle.std.specs.List.{list_any, take_while}
use Rattle.vd_model.specs.declared.step.Step.{Step}
use Rattle.vd_model.specs.Setting.{Setting}
use Rattle.vd_model.specs.Reading.{lines, reading}
use Rattle.vd_model.specs.Replies.{reply_line}
use Rattle.vd_model.specs.History.{History, reply}

-- a script has at most 64 MiB, and a line at most 65,536 bytes before its LF
abbrev pub text_limit : ℕ
text_limit = 67108864

abbrev pub line_limit : ℕ
line_limit = 65536

-- the lines, the first of them with b in front, if there is one
abbrev pub onto_first_line : ℕ → List (List ℕ) → List (List ℕ)
onto_first_line b [] = []
onto_first_line b (line ∷ lines) = (b ∷ line) ∷ lines

-- the lines that an LF ends
unfoldable pub ended_lines : List ℕ → List (List ℕ)
ended_lines [] = []
ended_lines (b ∷ bytes) = if b == 10 then [] ∷ ended_lines bytes else onto_first_line b (ended_lines bytes)

-- the lines of a script; of one that is too long, those that an LF within the limit ends
abbrev pub script_lines : List ℕ → List (List ℕ)
script_lines text = if nat_le (length text) text_limit then lines text else ended_lines (take text_limit text)

-- the line is short enough, and in a grammar
abbrev pub is_good_in : (List ℕ → Bool) → List ℕ → Bool
is_good_in reads line = nat_le (length line) line_limit && reads line

-- of a text with lines of a grammar, the lines before the one that stops the run
abbrev pub good_lines_in : (List ℕ → Bool) → List ℕ → List (List ℕ)
good_lines_in reads text = take_while (is_good_in reads) (script_lines text)

-- the line is in the grammar of scripts
abbrev pub is_script_line : List ℕ → Bool
is_script_line line = is_some (reading line)

-- the line is short enough and in that grammar
abbrev pub is_good : List ℕ → Bool
is_good line = is_good_in is_script_line line

-- the lines of a script before the one that stops the run
abbrev pub good_lines : List ℕ → List (List ℕ)
good_lines text = good_lines_in is_script_line text

-- why a run stops: at the end, at a line that isn't in the grammar, or at one that is too long or that holds the
-- first byte past the limit; lines are counted from 1
pub data Stop : Type 0 where
  At_the_end : Stop
  Not_in_grammar : ℕ → Stop
  Too_long : ℕ → Stop

-- the stop at these lines, after n others; `more` tells that the script goes on past the limit
abbrev pub stop_at : ℕ → List (List ℕ) → Bool → Stop
stop_at n [] more = if more then Too_long (n + 1) else At_the_end
stop_at n (line ∷ rest) more = if nat_le (length line) line_limit then Not_in_grammar (n + 1) else Too_long (n + 1)

-- the stop in a text with lines of a grammar
abbrev pub stop_in : (List ℕ → Bool) → List ℕ → Stop
stop_in reads text =
    stop_at (length (good_lines_in reads text)) (drop (length (good_lines_in reads text)) (script_lines text)) (nat_lt text_limit (length text))

abbrev pub stop_of : List ℕ → Stop
stop_of text = stop_in is_script_line text

-- the image failed at line n
abbrev pub has_failed : List ℕ → ℕ → Bool
has_failed failures n = list_any (λ i. i == n) failures

-- the history with what a line asks, at which the image failed or not
abbrev pub later_of : Bool → Option (Option Step) → History → History
later_of failed (Some (Some step)) h = record { step = step; failed = failed } ∷ h
later_of failed _ h = h

-- the history after some lines, of which the first is line n
unfoldable pub history_after : List ℕ → ℕ → History → List (List ℕ) → History
history_after failures n h [] = h
history_after failures n h (line ∷ rest) = history_after failures (n + 1) (later_of (has_failed failures n) (reading line) h) rest

-- the reply to a line, at which the image failed or not
abbrev pub reply_to : Bool → Setting → History → Option (Option Step) → List ℕ
reply_to failed x h (Some (Some step)) = reply_line (reply x h step failed)
reply_to failed x h _ = []

-- the replies to some lines after a history, of which the first is line n
unfoldable pub output_from : List ℕ → Setting → ℕ → History → List (List ℕ) → List ℕ
output_from failures x n h [] = []
output_from failures x n h (line ∷ rest) =
    reply_to (has_failed failures n) x h (reading line) ++ output_from failures x (n + 1) (later_of (has_failed failures n) (reading line) h) rest

-- what is written for a script, where the image failed at these lines
abbrev pub script_output : Setting → List ℕ → List ℕ → List ℕ
script_output x text failures = output_from failures x 1 [] (good_lines text)
