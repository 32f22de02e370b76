-- Transcripts: pairs of a script's line and its reply, which fit or don't, and what a checker writes of them.
use Rattle.std.specs.Prelude.{ℕ, ◌+◌, ◌-◌, ◌*◌, List, [], ◌∷◌, ◌++◌, length, take, Bool, true, false, ◌==◌, ◌&&◌, nat_le, if◌then◌else◌, Option, Some, None, codes, decimal}
use Rattle.std.specs.Str.{bytes_eq}
use Rattle.vd_model.specs.declared.answer.Answer.{Answer}
use Rattle.vd_model.specs.declared.answer.Answer.TheVariants.{Done}
use Rattle.vd_model.specs.declared.step.Step.{Step}
use Rattle.vd_model.specs.declared.step.Step.TheVariants.{Device}
use Rattle.vd_model.specs.declared.step.DevStep.TheVariants as on
use Rattle.vd_model.specs.declared.step.AreaStep.TheVariants as area
use Rattle.vd_model.specs.Setting.{Setting}
use Rattle.vd_model.specs.Deeds.{acts_of_device}
use Rattle.vd_model.specs.Puts.{shown_put}
use Rattle.vd_model.specs.Reading.{reading}
use Rattle.vd_model.specs.Replies.{reply_line}
use Rattle.vd_model.specs.History.{History, deeds_of, reply}
use Rattle.vd_output.specs.Out.{line_limit, script_lines}
use Rattle.vd_transcripts.specs.Origins.{is_plain, groups, origins_from, origins_line}

-- ---- the pairs of a transcript

-- a step, and the reply that stands behind it, without its LF
pub record Pair : Type 0 where
  pub step : Step
  pub reply : List ℕ

-- a reply of 32,768 bytes in two digits each has room behind the equals sign
abbrev pub reply_limit : ℕ
reply_limit = 65541

abbrev pub step_read : Option (Option Step) → Option Step
step_read (Some (Some step)) = Some step
step_read _ = None

-- the step that a line of a transcript says; there are no comments and no empty lines
abbrev pub step_in : List ℕ → Option Step
step_in line = if nat_le (length line) line_limit then step_read (reading line) else None

-- the reply that a line has behind an equals sign and a space
abbrev pub behind_sign : List ℕ → Option (List ℕ)
behind_sign (sign ∷ space ∷ bytes) = if (sign == 61) && (space == 32) then Some bytes else None
behind_sign _ = None

abbrev pub reply_in : List ℕ → Option (List ℕ)
reply_in line = if nat_le (length line) reply_limit then behind_sign line else None

abbrev pub pair_before : Option Step → Option (List ℕ) → List Pair → List Pair
pair_before (Some step) (Some reply) pairs = record { step = step; reply = reply } ∷ pairs
pair_before _ _ pairs = []

-- the pairs before the first line of another form, or before a last line that has no reply
unfoldable pub pairs_of : List (List ℕ) → List Pair
pairs_of (line ∷ answer ∷ lines) = pair_before (step_in line) (reply_in answer) (pairs_of lines)
pairs_of _ = []

-- ---- pairs that fit

-- a reply without its LF
abbrev pub reply_text : Answer → List ℕ
reply_text answer = take (length (reply_line answer) - 1) (reply_line answer)

-- a step that is asked, of an image that doesn't fail
abbrev pub asked_then : Step → History → History
asked_then step h = record { step = step; failed = false } ∷ h

-- the pair's reply is the answer to its step after a history
abbrev pub fits_after : Setting → History → Pair → Bool
fits_after x h pair = bytes_eq pair.reply (reply_text (reply x h pair.step false))

-- each reply is the answer to its step, after the steps before it
unfoldable pub fits_from : Setting → History → List Pair → Bool
fits_from x h [] = true
fits_from x h (pair ∷ pairs) = fits_after x h pair && fits_from x (asked_then pair.step h) pairs

-- a transcript fits
abbrev pub Fits : Setting → List Pair → Bool
Fits x pairs = fits_from x [] pairs

-- ---- what is written

abbrev pub is_done : Answer → Bool
is_done (Done items) = true
is_done _ = false

-- the line on a load of a plain device that is answered with bytes
abbrev pub load_line : Setting → ℕ → History → Step → List ℕ
load_line x line h (Device name (on.Area (area.Load at len))) =
    if is_plain x name h && is_done (reply x h (Device name (on.Area (area.Load at len))) false)
    then origins_line line (groups (origins_from (λ a. (shown_put x.per_page (acts_of_device name (deeds_of x h)) a).origin) at len)) else []
load_line x line h _ = []

abbrev pub yes_line : ℕ → List ℕ
yes_line count = codes "yes " ++ decimal count ++ 10 ∷ []

abbrev pub no_line : ℕ → List ℕ
no_line line = codes "no " ++ decimal line ++ 10 ∷ []

-- what is written of pairs after some others, of which there were `count`; `whole` tells that nothing comes behind them
unfoldable pub check_from : Setting → Bool → ℕ → History → List Pair → List ℕ
check_from x whole count h [] = if whole then yes_line count else []
check_from x whole count h (pair ∷ pairs) =
    if fits_after x h pair
    then load_line x (2 * count + 1) h pair.step ++ check_from x whole (count + 1) (asked_then pair.step h) pairs
    else no_line (2 * count + 2)

-- what a checker writes of a transcript
abbrev pub check_output : Setting → List ℕ → List ℕ
check_output x text =
    check_from x (length (script_lines text) == 2 * length (pairs_of (script_lines text))) 0 [] (pairs_of (script_lines text))
