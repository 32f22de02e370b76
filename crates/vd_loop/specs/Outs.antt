-- What a run of lines says of a text: `reads` accepts its lines, and `out` is all that is written for some lines.
use Rattle.std.specs.Prelude.{ℕ, ◌+◌, ◌<◌, ◌≤◌, ◌≡◌, List, [], ◌++◌, Option, Some, None, length, take, Bool}
use Rattle.vd_output.specs.Out.{good_lines_in, stop_in, At_the_end, Not_in_grammar, Too_long}
use Rattle.vd_lines.specs.IsAt.{IsTaken}
use Rattle.vd_loop.specs.declared.progress.Stop.{Stop}
use Rattle.vd_loop.specs.declared.progress.Stop.TheVariants.{End, SourceFailed, SinkFailed, Memory, BadLine, TooLong}
use Rattle.vd_loop.specs.Written.{Appended}

-- what is written for more lines begins with what is written for the first of them
abbrev pub Grows : (List (List ℕ) → List ℕ) → Type 0
Grows out = (xs ys : List (List ℕ)) → (more : List ℕ) × (out (xs ++ ys) ≡ out xs ++ more)

-- new holds a front of these bytes more than old
abbrev pub AppendedFront : Option (List ℕ) → Option (List ℕ) → List ℕ → Type 0
AppendedFront None new bytes = Unit {0}
AppendedFront (Some base) new bytes = (front : List ℕ) × (back : List ℕ) × (front ++ back ≡ bytes) × (new ≡ Some (base ++ front))

-- the bytes are a front of what is to be written, in which the replies to so many lines are whole, and the next one isn't
pub record IsTextCut (out : List (List ℕ) → List ℕ) (good : List (List ℕ)) (lines : ℕ) (bytes : List ℕ) : Type 0 where
  pub back : List ℕ
  pub front : bytes ++ back ≡ out good
  pub whole : length (out (take lines good)) ≤ length bytes
  pub not_next : length bytes < length (out (take (lines + 1) good))

-- such a front was written
abbrev pub AppendedCut : (List (List ℕ) → List ℕ) → List (List ℕ) → ℕ → Option (List ℕ) → Option (List ℕ) → Type 0
AppendedCut out good lines None new = Unit {0}
AppendedCut out good lines (Some base) new = (bytes : List ℕ) × IsTextCut out good lines bytes × (new ≡ Some (base ++ bytes))

-- the replies to so many lines were written, and these are a front of what is to be written
pub record AppendedLines (out : List (List ℕ) → List ℕ) (good : List (List ℕ)) (lines : ℕ) (old new : Option (List ℕ)) : Type 0 where
  pub there : lines ≤ length good
  pub written : Appended old new (out (take lines good))
  pub front : AppendedFront old new (out good)

-- of the bytes that were taken, the lines that an LF ends are the first so many of those that are answered
pub record TakenTo (reads : List ℕ → Bool) (text : List ℕ) (lines : ℕ) (left : Option (List ℕ)) : Type 0 where
  pub there : lines ≤ length (good_lines_in reads text)
  pub taken : IsTaken text (take lines (good_lines_in reads text)) left

-- what a run that stopped so says of the text, of what is left of it, and of the lines that are done
abbrev pub TextStops : (reads : List ℕ → Bool) (text : List ℕ) → Stop → (line lines : ℕ) → Option (List ℕ) → Type 0
TextStops reads text End line lines left = (stop_in reads text ≡ At_the_end) × (left ≡ Some []) × (lines ≡ length (good_lines_in reads text))
TextStops reads text BadLine line lines left = (stop_in reads text ≡ Not_in_grammar line) × (lines ≡ length (good_lines_in reads text))
TextStops reads text TooLong line lines left = (stop_in reads text ≡ Too_long line) × (lines ≡ length (good_lines_in reads text))
TextStops reads text SourceFailed line lines left = TakenTo reads text lines left
TextStops reads text SinkFailed line lines left = Unit {0}
TextStops reads text Memory line lines left = lines ≤ length (good_lines_in reads text)

-- and of what was written
abbrev pub TextWrites : (out : List (List ℕ) → List ℕ) (good : List (List ℕ)) → Stop → (lines : ℕ) → Option (List ℕ) → Option (List ℕ) → Type 0
TextWrites out good End lines old new = Appended old new (out good)
TextWrites out good BadLine lines old new = Appended old new (out good)
TextWrites out good TooLong lines old new = Appended old new (out good)
TextWrites out good SourceFailed lines old new = AppendedLines out good lines old new
TextWrites out good SinkFailed lines old new = AppendedCut out good lines old new
TextWrites out good Memory lines old new = AppendedLines out good lines old new
