-- Where a run of lines stands, and how it ends. Of lines that were answered, `replies` are the replies, one for each.
use Rattle.std.specs.Prelude.{ℕ, ◌+◌, ◌<◌, ◌≤◌, ◌≡◌, ◌≢◌, ◌⊎◌, List, [], ◌∷◌, ◌++◌, Option, Some, length, take, slice_get, Bool, true, false, if◌then◌else◌}
use Rattle.std.specs.List.{concat}
use Rattle.vd_output.specs.Out.{good_lines_in, stop_in, At_the_end, Not_in_grammar, Too_long}
use Rattle.vd_lines.specs.IsAt.{IsTaken}
use Rattle.vd_loop.specs.declared.machine.Answer.{Answer}
use Rattle.vd_loop.specs.declared.machine.Answer.TheVariants.{Told, Bad, Later}
use Rattle.vd_loop.specs.declared.progress.Progress.{Progress}
use Rattle.vd_loop.specs.declared.progress.Stop.{Stop}
use Rattle.vd_loop.specs.declared.progress.Stop.TheVariants.{End, SourceFailed, SinkFailed, Memory, BadLine, TooLong}
use Rattle.vd_loop.specs.Replies.{Replies, IsReplyAdded, Cut, Flushed, line_at}
use Rattle.vd_loop.specs.Statuses.{line_of}
use Rattle.vd_loop.specs.Written.{Appended}

-- ---- one line

-- what an answer tells of a line that is in the grammar or not, and is to be answered alone or not, by whether no reply waits
abbrev pub IsOf : (reads alone empty : Bool) → Answer → Type 0
IsOf reads alone empty Told = (reads ≡ true) × (alone ≡ true → empty ≡ true)
IsOf reads alone empty Bad = reads ≡ false
IsOf reads alone empty Later = empty ≡ false

-- what is true of the lines that are answered then, and of their replies
abbrev pub AnsweredBy : (line reply : List ℕ) (done replies : List (List ℕ)) → (List (List ℕ) → List (List ℕ) → Type 0) → Answer → Type 0
AnsweredBy line reply done replies answered Told = answered (done ++ line ∷ []) (replies ++ reply ∷ [])
AnsweredBy line reply done replies answered Bad = answered done replies
AnsweredBy line reply done replies answered Later = answered done replies

-- the reply to a line after so many others waits; what waited before was written, or waits still
pub record Waited (alone : Bool) (reply : List ℕ) (lines : ℕ) (old new : Replies) (held later : Option (List ℕ)) : Type 0 where
  pub kept : Replies
  pub flushed : Flushed old kept held later
  pub none : alone ≡ true → kept.bytes ≡ []
  pub waits : IsReplyAdded reply lines kept new

-- why no reply to a line waits
abbrev pub StoppedBy : Stop → (done : ℕ) → (reads : Bool) → (lines : ℕ) → (old new : Replies) → (held later : Option (List ℕ)) → Type 0
StoppedBy BadLine done reads lines old new held later = (done ≡ lines) × (reads ≡ false) × Flushed old new held later
StoppedBy Memory done reads lines old new held later = (done ≡ lines) × Flushed old new held later
StoppedBy SinkFailed done reads lines old new held later = Cut old done held later
StoppedBy End done reads lines old new held later = ⊥
StoppedBy SourceFailed done reads lines old new held later = ⊥
StoppedBy TooLong done reads lines old new held later = ⊥

-- what is true of the machine where a line was asked to no end: it answered the lines before, or memory ran out
abbrev pub AskedTo : Stop → (answered short : Type 0) → Type 0
AskedTo Memory answered short = short
AskedTo _ answered short = answered

-- and where no reply to it waits: perhaps it was answered, and memory ran out after that
abbrev pub LeftAt : Stop → (answered short untold : Type 0) → Type 0
LeftAt Memory answered short untold = short ⊎ untold
LeftAt _ answered short untold = answered

-- ---- the lines that were answered

-- the byte at place n of these replies is of the one after the first k
pub record IsIn (replies : List (List ℕ)) (k n : ℕ) : Type 0 where
  pub within : k < length replies
  pub begins : length (concat (take k replies)) ≤ n
  pub ends : n < length (concat (take (k + 1) replies))

-- of these replies a front was written, and the rest waits
pub record Waits (replies : List (List ℕ)) (waiting : Replies) (old new : Option (List ℕ)) : Type 0 where
  pub front : List ℕ
  pub written : Appended old new front
  pub all : front ++ waiting.bytes ≡ concat replies
  pub line : (n : ℕ) → n < length waiting.bytes → IsIn replies (line_at waiting n) (length front + n)

-- none of these lines that are answered alone stands behind the first n and one more
abbrev pub NoneLater : (List ℕ → Bool) → List (List ℕ) → ℕ → Type 0
NoneLater alone done n = (k : ℕ) (line : List ℕ) → slice_get done k ≡ Some line → alone line ≡ true → k ≤ n

-- so many lines were answered by these replies, which are written or wait; none waits to a line before one that was answered alone
pub record IsOut (alone : List ℕ → Bool) (done replies : List (List ℕ)) (waiting : Replies) (lines : ℕ) (old new : Option (List ℕ)) : Type 0 where
  pub count : lines ≡ length done
  pub each : length replies ≡ length done
  pub waits : Waits replies waiting old new
  pub none_later : (n : ℕ) → n < length waiting.bytes → NoneLater alone done (line_at waiting n)

-- memory ran out at a line, which counts as carried out where it is in the grammar
pub record IsShort (reads : List ℕ → Bool) (done replies carried : List (List ℕ)) (short : List (List ℕ) → List (List ℕ) → List ℕ → Type 0) : Type 0 where
  pub line : List ℕ
  pub run : short done replies line
  pub is : carried ≡ (if reads line then done ++ line ∷ [] else done)

-- a line more was answered, and there was no memory for its reply; where it was answered alone, `quiet` is true
pub record Untold (alone : List ℕ → Bool) (quiet : Type 0) (done replies carried : List (List ℕ)) (answered : List (List ℕ) → List (List ℕ) → Type 0) : Type 0 where
  pub line : List ℕ
  pub reply : List ℕ
  pub is : carried ≡ done ++ line ∷ []
  pub run : answered carried (replies ++ reply ∷ [])
  pub is_quiet : alone line ≡ true → quiet

-- these lines were answered; perhaps there was no memory for one more, or for its reply
abbrev pub Reached : (reads alone : List ℕ → Bool) → Type 0 → (done replies carried : List (List ℕ)) → (answered : List (List ℕ) → List (List ℕ) → Type 0) → (short : List (List ℕ) → List (List ℕ) → List ℕ → Type 0) → Type 0
Reached reads alone quiet done replies carried answered short =
    ((carried ≡ done) × answered done replies) ⊎ (IsShort reads done replies carried short ⊎ Untold alone quiet done replies carried answered)

-- the machine at each stop
abbrev pub ReachedBy : Stop → (reads alone : List ℕ → Bool) → Type 0 → (done replies carried : List (List ℕ)) → (answered : List (List ℕ) → List (List ℕ) → Type 0) → (short : List (List ℕ) → List (List ℕ) → List ℕ → Type 0) → Type 0
ReachedBy Memory reads alone quiet done replies carried answered short = Reached reads alone quiet done replies carried answered short
ReachedBy SinkFailed reads alone quiet done replies carried answered short = Reached reads alone quiet done replies carried answered short
ReachedBy _ reads alone quiet done replies carried answered short = (carried ≡ done) × answered done replies

-- ---- the end

-- these are the first of those lines
pub record IsFront (front whole : List (List ℕ)) : Type 0 where
  pub rest : List (List ℕ)
  pub is : whole ≡ front ++ rest

-- where a run stopped in a text whose lines are read so, and what is left of it
abbrev pub StopsBy : (reads : List ℕ → Bool) (text : List ℕ) (done carried : List (List ℕ)) → Stop → (line : ℕ) → Option (List ℕ) → Type 0
StopsBy reads text done carried End line left = (stop_in reads text ≡ At_the_end) × (good_lines_in reads text ≡ done) × (left ≡ Some [])
StopsBy reads text done carried BadLine line left = (stop_in reads text ≡ Not_in_grammar line) × (good_lines_in reads text ≡ done)
StopsBy reads text done carried TooLong line left = (stop_in reads text ≡ Too_long line) × (good_lines_in reads text ≡ done)
StopsBy reads text done carried SourceFailed line left = IsFront done (good_lines_in reads text) × IsTaken text done left
StopsBy reads text done carried SinkFailed line left = IsFront carried (good_lines_in reads text)
StopsBy reads text done carried Memory line left = IsFront carried (good_lines_in reads text)

-- a front was written in which the first replies are whole, so many, and the next one isn't; no line behind that was answered alone
pub record IsCut (alone : List ℕ → Bool) (done replies : List (List ℕ)) (lines : ℕ) (old new : Option (List ℕ)) : Type 0 where
  pub bytes : List ℕ
  pub back : List ℕ
  pub written : Appended old new bytes
  pub front : bytes ++ back ≡ concat replies
  pub within : lines < length replies
  pub whole : length (concat (take lines replies)) ≤ length bytes
  pub not_next : length bytes < length (concat (take (lines + 1) replies))
  pub none_later : NoneLater alone done lines

-- all of the replies were written
pub record AllWritten (done replies : List (List ℕ)) (lines : ℕ) (old new : Option (List ℕ)) : Type 0 where
  pub count : lines ≡ length done
  pub written : Appended old new (concat replies)

-- what was written at each stop
abbrev pub WritesBy : (alone : List ℕ → Bool) (done replies : List (List ℕ)) → Stop → ℕ → Option (List ℕ) → Option (List ℕ) → Type 0
WritesBy alone done replies SinkFailed lines old new = IsCut alone done replies lines old new
WritesBy alone done replies _ lines old new = AllWritten done replies lines old new

-- a run of lines that ended so: which lines were answered, by which replies, where it stopped, and what is written
pub record Ran (reads alone : List ℕ → Bool) (answered : List (List ℕ) → List (List ℕ) → Type 0) (short : List (List ℕ) → List (List ℕ) → List ℕ → Type 0)
    (told : Option (List ℕ)) (stop : Stop) (line lines : ℕ) (left old new : Option (List ℕ)) : Type 0 where
  pub done : List (List ℕ)
  pub replies : List (List ℕ)
  pub carried : List (List ℕ)
  pub each : length replies ≡ length done
  pub reached : ReachedBy stop reads alone (stop ≢ SinkFailed) done replies carried answered short
  pub stopped : (text : List ℕ) → told ≡ Some text → StopsBy reads text done carried stop line left
  pub written : WritesBy alone done replies stop lines old new

-- ---- before the last replies are written

-- so many lines were answered, their replies are written or wait, and no line more is answered
pub record PlayedTo (reads alone : List ℕ → Bool) (answered : List (List ℕ) → List (List ℕ) → Type 0) (short : List (List ℕ) → List (List ℕ) → List ℕ → Type 0)
    (told : Option (List ℕ)) (stop : Stop) (waiting : Replies) (lines : ℕ) (left old new : Option (List ℕ)) : Type 0 where
  pub done : List (List ℕ)
  pub replies : List (List ℕ)
  pub carried : List (List ℕ)
  pub out : IsOut alone done replies waiting lines old new
  pub reached : ReachedBy stop reads alone (waiting.bytes ≡ []) done replies carried answered short
  pub stopped : (text : List ℕ) → told ≡ Some text → StopsBy reads text done carried stop (line_of stop lines) left

-- the sink failed at replies that waited
pub record PlayedCut (reads alone : List ℕ → Bool) (answered : List (List ℕ) → List (List ℕ) → Type 0) (told : Option (List ℕ)) (written : ℕ) (old new : Option (List ℕ)) : Type 0 where
  pub done : List (List ℕ)
  pub replies : List (List ℕ)
  pub waiting : Replies
  pub lines : ℕ
  pub between : Option (List ℕ)
  pub out : IsOut alone done replies waiting lines old between
  pub cut : Cut waiting written between new
  pub run : answered done replies
  pub front : (text : List ℕ) → told ≡ Some text → IsFront done (good_lines_in reads text)

abbrev pub Played : (reads alone : List ℕ → Bool) → (answered : List (List ℕ) → List (List ℕ) → Type 0) → (short : List (List ℕ) → List (List ℕ) → List ℕ → Type 0)
    → (told : Option (List ℕ)) → Stop → (waiting : Replies) → (lines : ℕ) → (left old new : Option (List ℕ)) → Type 0
Played reads alone answered short told SinkFailed waiting lines left old new = PlayedCut reads alone answered told lines old new
Played reads alone answered short told stop waiting lines left old new = PlayedTo reads alone answered short told stop waiting lines left old new

-- the last replies were written, a front of them was, or the sink had failed before
abbrev pub Finished : (before after : Progress) → Replies → (held later : Option (List ℕ)) → Type 0
Finished before after waiting held later =
    ((before.stop ≡ SinkFailed) × (after ≡ before) × (later ≡ held))
    ⊎ ((before.stop ≢ SinkFailed) × (((after ≡ before) × Appended held later waiting.bytes) ⊎ ((after.stop ≡ SinkFailed) × Cut waiting after.lines held later)))
