-- Where a reader stands in the text that a source tells.
use Rattle.std.specs.Prelude.{ℕ, ◌+◌, ◌≤◌, ◌≡◌, List, [], ◌∷◌, ◌++◌, length, drop, nat_le, Bool, true, Option, Some, Result, Ok, Err}
use Rattle.std.specs.List.{list_all}
use Rattle.vd_model.specs.Reading.{lines}
use Rattle.vd_output.specs.Out.{ended_lines, script_lines, is_good_in, good_lines_in, stop_in, Too_long, text_limit, line_limit}
use Rattle.vd_lines.specs.declared.reader.Next.{Next}
use Rattle.vd_lines.specs.declared.reader.Next.TheVariants.{Line, Last, End}
use Rattle.vd_lines.specs.declared.reader.ReadFault.{ReadFault}
use Rattle.vd_lines.specs.declared.reader.ReadFault.TheVariants.{Failed, TooLong, Memory}
use Rattle.vd_lines.specs.Ahead.{Ahead}

-- the bytes that were seen are those lines, each with its LF
pub record Cuts (seen : List ℕ) (done : List (List ℕ)) : Type 0 where
  pub all : (more : List ℕ) → lines (seen ++ more) ≡ done ++ lines more
  pub whole : (more : List ℕ) → ended_lines (seen ++ more) ≡ done ++ ended_lines more

-- these lines were read, and the rest of the text is ahead or left in the source
pub record IsAt (text : List ℕ) (done : List (List ℕ)) (r : Ahead) (left : Option (List ℕ)) : Type 0 where
  pub seen : List ℕ
  pub rest : List ℕ
  pub cuts : Cuts seen done
  pub bytes : text ≡ seen ++ (r.pending ++ rest)
  pub left_is : left ≡ Some rest
  pub taken : r.taken ≡ length seen + length r.pending
  pub room : r.taken ≤ 67108864

-- the line after those that were read
pub record Leads (text : List ℕ) (done : List (List ℕ)) (line : List ℕ) : Type 0 where
  pub after : List (List ℕ)
  pub lines_are : script_lines text ≡ done ++ line ∷ after

-- all lines were read, and the source to its end
pub record IsRead (text : List ℕ) (done : List (List ℕ)) (left : Option (List ℕ)) : Type 0 where
  pub lines_are : script_lines text ≡ done
  pub all : lines text ≡ done
  pub short : length text ≤ 67108864
  pub none_left : left ≡ Some []

-- the line has at most so many bytes as a line may have
abbrev pub is_short : List ℕ → Bool
is_short line = nat_le (length line) line_limit

-- of what was taken, an LF ends those lines; what was taken passes no limit, nor does the line behind them
pub record IsTaken (text : List ℕ) (done : List (List ℕ)) (left : Option (List ℕ)) : Type 0 where
  pub taken : List ℕ
  pub rest : List ℕ
  pub bytes : taken ++ rest ≡ text
  pub left_is : left ≡ Some rest
  pub ended_are : ended_lines taken ≡ done
  pub within : length taken ≤ text_limit
  pub open_line : list_all is_short (drop (length done) (lines taken)) ≡ true

-- whatever the grammar is, the run stops at a line that is too long, or at the limit
abbrev pub StopsLong : List ℕ → List (List ℕ) → Type 0
StopsLong text done = (reads : List ℕ → Bool) → list_all (is_good_in reads) done ≡ true → (stop_in reads text ≡ Too_long (length done + 1)) × (good_lines_in reads text ≡ done)

abbrev pub IsNext : List ℕ → List (List ℕ) → Ahead → Option (List ℕ) → Result Next ReadFault → Type 0
IsNext text done new left (Ok Line) = IsAt text (done ++ new.line ∷ []) new left × Leads text done new.line × (length new.line ≤ 65536)
IsNext text done new left (Ok Last) = IsRead text (done ++ new.line ∷ []) left × (length new.line ≤ 65536)
IsNext text done new left (Ok End) = IsRead text done left
IsNext text done new left (Err Failed) = IsTaken text done left
IsNext text done new left (Err TooLong) = StopsLong text done
IsNext text done new left (Err Memory) = Unit {0}
