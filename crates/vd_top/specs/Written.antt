-- What a run read and wrote, where source and sink tell it.
use Rattle.std.specs.Prelude.{ℕ, ◌+◌, ◌<◌, ◌≤◌, ◌≡◌, List, ◌++◌, Option, Some, None, length, take, Bool, ◌==◌, ◌||◌, ◌&&◌, nat_le, if◌then◌else◌, []}
use Rattle.vd_model.specs.Setting.{Setting}
use Rattle.vd_output.specs.Out.{good_lines, stop_of, At_the_end, Not_in_grammar, Too_long, output_from, script_output}
use Rattle.vd_lines.specs.IsAt.{IsTaken}
use Rattle.vd_loop.specs.Written.{Appended}
use Rattle.vd_loop.specs.declared.progress.Stop.{Stop}
use Rattle.vd_loop.specs.declared.progress.Stop.TheVariants.{End, SourceFailed, SinkFailed, Memory, BadLine, TooLong}

-- new holds a front of these bytes more than old
abbrev pub AppendedFront : Option (List ℕ) → Option (List ℕ) → List ℕ → Type 0
AppendedFront None new bytes = Unit {0}
AppendedFront (Some base) new bytes = (front : List ℕ) × (back : List ℕ) × (front ++ back ≡ bytes) × (new ≡ Some (base ++ front))

-- the replies to the first n of the lines before the one that stops the run, where the image failed at these lines
abbrev pub replies : Setting → List ℕ → List ℕ → ℕ → List ℕ
replies x text failures n = output_from failures x 1 [] (take n (good_lines text))

-- the bytes are a front of what is to be written, in which the replies to so many lines are whole, and the next one isn't
pub record IsCut (x : Setting) (text failures : List ℕ) (lines : ℕ) (bytes : List ℕ) : Type 0 where
  pub back : List ℕ
  pub front : bytes ++ back ≡ script_output x text failures
  pub whole : length (replies x text failures lines) ≤ length bytes
  pub not_next : length bytes < length (replies x text failures (lines + 1))

-- such a front was written
abbrev pub AppendedCut : Setting → List ℕ → List ℕ → ℕ → Option (List ℕ) → Option (List ℕ) → Type 0
AppendedCut x text failures lines None new = Unit {0}
AppendedCut x text failures lines (Some base) new = (bytes : List ℕ) × IsCut x text failures lines bytes × (new ≡ Some (base ++ bytes))

-- the replies to so many lines were written, and these are a front of what is to be written
pub record AppendedLines (x : Setting) (text failures : List ℕ) (lines : ℕ) (old new : Option (List ℕ)) : Type 0 where
  pub there : lines ≤ length (good_lines text)
  pub written : Appended old new (replies x text failures lines)
  pub front : AppendedFront old new (script_output x text failures)

-- of the bytes that were taken, the lines that an LF ends are the first so many of those that are answered
pub record TakenTo (text : List ℕ) (lines : ℕ) (left : Option (List ℕ)) : Type 0 where
  pub there : lines ≤ length (good_lines text)
  pub taken : IsTaken text (take lines (good_lines text)) left

-- what a run that stopped so says of the text, of what is left of it, and of the lines that are done
abbrev pub StopsBy : List ℕ → Stop → ℕ → ℕ → Option (List ℕ) → Type 0
StopsBy text End line lines left = (stop_of text ≡ At_the_end) × (left ≡ Some []) × (lines ≡ length (good_lines text))
StopsBy text BadLine line lines left = (stop_of text ≡ Not_in_grammar line) × (lines ≡ length (good_lines text))
StopsBy text TooLong line lines left = (stop_of text ≡ Too_long line) × (lines ≡ length (good_lines text))
StopsBy text SourceFailed line lines left = TakenTo text lines left
StopsBy text SinkFailed line lines left = Unit {0}
StopsBy text Memory line lines left = lines ≤ length (good_lines text)

-- and of what was written
abbrev pub WritesBy : Setting → List ℕ → List ℕ → Stop → ℕ → Option (List ℕ) → Option (List ℕ) → Type 0
WritesBy x text failures End lines old new = Appended old new (script_output x text failures)
WritesBy x text failures BadLine lines old new = Appended old new (script_output x text failures)
WritesBy x text failures TooLong lines old new = Appended old new (script_output x text failures)
WritesBy x text failures SourceFailed lines old new = AppendedLines x text failures lines old new
WritesBy x text failures SinkFailed lines old new = AppendedCut x text failures lines old new
WritesBy x text failures Memory lines old new = AppendedLines x text failures lines old new
