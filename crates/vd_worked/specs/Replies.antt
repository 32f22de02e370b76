-- The replies to some lines, each without its LF.
use Rattle.std.specs.Prelude.{ℕ, ◌+◌, ◌-◌, ◌==◌, Bool, List, [], ◌∷◌, Option, Some, None, codes, length, take}
use Rattle.std.specs.List.{list_any}
use Rattle.vd_model.specs.declared.step.Step.{Step}
use Rattle.vd_model.specs.Setting.{Setting}
use Rattle.vd_model.specs.Reading.{reading}
use Rattle.vd_model.specs.Replies.{reply_line}
use Rattle.vd_model.specs.History.{History, reply}

-- a setting with an image of zeros
abbrev pub setting : ℕ → ℕ → ℕ → ℕ → Setting
setting bounce iova per_page sectors =
    record { bounce = bounce; iova = iova; per_page = per_page; sectors = sectors; content = λ i. 0 }

-- a reply without its LF
abbrev pub without_end : List ℕ → List ℕ
without_end line = take (length line - 1) line

abbrev pub history_after_step : Step → Bool → History → History
history_after_step step failed h = record { step = step; failed = failed } ∷ h

-- the reply to what a line says, where the image fails at it or not, and to the lines after it
abbrev pub replies_by : Setting → Bool → History → Option (Option Step) → (History → List (List ℕ)) → List (List ℕ)
replies_by x failed h None more = codes "not in the grammar" ∷ []
replies_by x failed h (Some None) more = more h
replies_by x failed h (Some (Some step)) more = without_end (reply_line (reply x h step failed)) ∷ more (history_after_step step failed h)

-- the replies to lines that begin with the one of this number, where the image fails at the lines of some numbers
unfoldable pub replies_from : Setting → List ℕ → ℕ → History → List (List ℕ) → List (List ℕ)
replies_from x failing n h [] = []
replies_from x failing n h (line ∷ lines) =
    replies_by x (list_any (λ k. k == n) failing) h (reading line) (λ later. replies_from x failing (n + 1) later lines)

-- the image doesn't fail
abbrev pub replies_to : Setting → List (List ℕ) → List (List ℕ)
replies_to x lines = replies_from x [] 1 [] lines

-- it fails at the lines of these numbers
abbrev pub replies_failing : Setting → List ℕ → List (List ℕ) → List (List ℕ)
replies_failing x failing lines = replies_from x failing 1 [] lines
