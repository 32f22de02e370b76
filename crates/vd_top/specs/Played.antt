-- Where a run stands, and where it stopped, before the last replies are written.
use Rattle.std.specs.Prelude.{ℕ, ◌+◌, ◌<◌, ◌≤◌, ◌≡◌, ◌⊎◌, List, [], ◌++◌, Option, Some, None, length, take, Bool, true, false, is_some}
use Rattle.vd_model.specs.declared.step.Step.{Step}
use Rattle.vd_model.specs.Setting.{Setting}
use Rattle.vd_model.specs.History.{History, deeds_of}
use Rattle.vd_output.specs.Out.{good_lines, stop_of, At_the_end, Not_in_grammar, Too_long, later_of, reply_to, output_from}
use Rattle.vd_lines.specs.IsAt.{IsTaken}
use Rattle.vd_top.specs.declared.grammar.Line.{Line}
use Rattle.vd_top.specs.declared.grammar.Line.TheVariants.{Bad, Nothing, Asks}
use Rattle.vd_loop.specs.declared.progress.Stop.{Stop}
use Rattle.vd_loop.specs.declared.progress.Stop.TheVariants.{End, SourceFailed, SinkFailed, Memory, BadLine, TooLong}
use Rattle.vd_top.specs.declared.player.Player.{Player}
use Rattle.vd_engine.specs.declared.engine.Engine.{Engine}
use Rattle.vd_engine.specs.Machine.{StandsFor}
use Rattle.vd_engine.specs.Image.{IsImage}
use Rattle.vd_top.specs.Executes.{asks_execution, executes, AreFailures, AreUpTo, failed_more}
use Rattle.vd_top.specs.Pictures.{Shown, HoldsRun, HoldsFrom, ImageAt}
use Rattle.vd_loop.specs.Replies.{Replies, IsReplyAdded, Cut, Flushed, line_at}
use Rattle.vd_loop.specs.Written.{Appended}
use Rattle.vd_top.specs.Written.{AppendedCut}

-- what a line was read as
abbrev pub Says : Line → Option (Option Step) → Type 0
Says Bad read = read ≡ None
Says Nothing read = read ≡ Some None
Says (Asks step) read = read ≡ Some (Some step)

-- ---- one line

-- the reply to a line at which the image failed or not, and the engine stands for the history with it
pub record Replied (x : Setting) (h : History) (read : Option (Option Step)) (failed : Bool) (reply : List ℕ) (engine : Engine) : Type 0 where
  pub stands : StandsFor x (later_of failed read h) engine
  pub text : reply ≡ reply_to failed x h read

-- the line after so many others was carried out: the image failed at it or not, and where it held what was stored before, it holds what that
-- line stored too; no line but an execute touches it
pub record Carried (read : Option (Option Step)) (lines : ℕ) (failed : Bool) (old new : Player) (size : ℕ) (before after : Shown) : Type 0 where
  pub said : is_some read ≡ true
  pub failures : new.failures.items ≡ failed_more failed (lines + 1) old.failures.items
  pub quiet : asks_execution read ≡ false → (failed ≡ false) × (after ≡ before)
  pub image : (x : Setting) (h : History) (first : Shown) → StandsFor x h old.engine → HoldsRun x h size first before → HoldsRun x (later_of failed read h) size first after

-- and its reply waits; before an execute those that waited are written
pub record Answered (read : Option (Option Step)) (lines : ℕ) (old new : Player) (held later : Option (List ℕ)) (size : ℕ) (before after : Shown) : Type 0 where
  pub failed : Bool
  pub carried : Carried read lines failed old new size before after
  pub kept : Replies
  pub flushed : Flushed old.waiting kept held later
  pub alone : asks_execution read ≡ true → kept.bytes ≡ []
  pub reply : List ℕ
  pub waits : IsReplyAdded reply lines kept new.waiting
  pub run : (x : Setting) (h : History) → StandsFor x h old.engine → (asks_execution read ≡ true → IsImage x (deeds_of x h) size before.content) → Replied x h read failed reply new.engine

-- an execute was carried out, and there was no memory for its reply; no other waits
pub record Untold (read : Option (Option Step)) (lines : ℕ) (old new : Player) (size : ℕ) (before after : Shown) : Type 0 where
  pub is : asks_execution read ≡ true
  pub failed : Bool
  pub carried : Carried read lines failed old new size before after
  pub none : new.waiting.bytes ≡ []

-- nothing was carried out
pub record Unchanged (old new : Player) (before after : Shown) : Type 0 where
  pub failures : new.failures.items ≡ old.failures.items
  pub image : after ≡ before

-- why the replies that wait weren't written before an execute, or there was no room for its number
abbrev pub IsHindered : Stop → ℕ → ℕ → Replies → Replies → Option (List ℕ) → Option (List ℕ) → Type 0
IsHindered SinkFailed done lines old new held later = Cut old done held later
IsHindered Memory done lines old new held later = (done ≡ lines) × Flushed old new held later
IsHindered End done lines old new held later = ⊥
IsHindered SourceFailed done lines old new held later = ⊥
IsHindered BadLine done lines old new held later = ⊥
IsHindered TooLong done lines old new held later = ⊥

-- why a line isn't answered
abbrev pub StoppedBy : Stop → ℕ → Option (Option Step) → ℕ → Player → Player → Option (List ℕ) → Option (List ℕ) → ℕ → Shown → Shown → Type 0
StoppedBy BadLine done read lines old new held later size before after =
    (done ≡ lines) × (read ≡ None) × Flushed old.waiting new.waiting held later × Unchanged old new before after
StoppedBy Memory done read lines old new held later size before after =
    (done ≡ lines) × Flushed old.waiting new.waiting held later × (Unchanged old new before after ⊎ Untold read lines old new size before after)
StoppedBy SinkFailed done read lines old new held later size before after = Cut old.waiting done held later × Unchanged old new before after
StoppedBy End done read lines old new held later size before after = ⊥
StoppedBy SourceFailed done read lines old new held later size before after = ⊥
StoppedBy TooLong done read lines old new held later size before after = ⊥

-- ---- a run

-- the byte at place n of the replies to these lines is of the reply to the one after the first k
pub record IsIn (x : Setting) (failures : List ℕ) (done : List (List ℕ)) (k n : ℕ) : Type 0 where
  pub within : k < length done
  pub begins : length (output_from failures x 1 [] (take k done)) ≤ n
  pub ends : n < length (output_from failures x 1 [] (take (k + 1) done))

-- of the replies to these lines a front was written, and the rest waits
pub record Waits (x : Setting) (failures : List ℕ) (done : List (List ℕ)) (waiting : Replies) (old new : Option (List ℕ)) : Type 0 where
  pub front : List ℕ
  pub written : Appended old new front
  pub all : front ++ waiting.bytes ≡ output_from failures x 1 [] done
  pub line : (n : ℕ) → n < length waiting.bytes → IsIn x failures done (line_at waiting n) (length front + n)

-- a setting of which the run is told: an execute is answered by what the image held at first
pub record IsSetting (x : Setting) (text : List ℕ) (engine : Engine) (size : ℕ) (first : Shown) : Type 0 where
  pub stands : StandsFor x [] engine
  pub image : executes text ≡ true → IsImage x [] size first.content

-- of so many lines, the executes at which the image failed, the last one that was carried out, and no reply that waits to a line before that
pub record IsLast (failures : List ℕ) (waiting : Replies) (last most : ℕ) : Type 0 where
  pub low : last ≤ most
  pub early : AreUpTo last failures
  pub line : (n : ℕ) → n < length waiting.bytes → last ≤ line_at waiting n + 1

-- where a run that stopped so stopped in the text
abbrev pub StopsAt : List ℕ → List (List ℕ) → Option (List ℕ) → Stop → Type 0
StopsAt text done left End = (stop_of text ≡ At_the_end) × (good_lines text ≡ done) × (left ≡ Some [])
StopsAt text done left BadLine = (stop_of text ≡ Not_in_grammar (length done + 1)) × (good_lines text ≡ done)
StopsAt text done left TooLong = (stop_of text ≡ Too_long (length done + 1)) × (good_lines text ≡ done)
StopsAt text done left SourceFailed = IsTaken text done left
StopsAt text done left SinkFailed = ⊥
StopsAt text done left Memory = Unit {0}

-- how many lines were carried out at most, so many being answered
abbrev pub most_of : Stop → ℕ → ℕ
most_of Memory lines = lines + 1
most_of _ lines = lines

-- the lines that were answered, whose replies are written or wait, and where the run stopped behind them
pub record PlayedTo (text : List ℕ) (stop : Stop) (lines : ℕ) (engine : Engine) (new : Player) (left held later : Option (List ℕ)) (size : ℕ) (before after : Shown) : Type 0 where
  pub done : List (List ℕ)
  pub count : lines ≡ length done
  pub stops : StopsAt text done left stop
  -- the run answers these lines first
  pub rest : List (List ℕ)
  pub first : good_lines text ≡ done ++ rest
  pub numbers : AreFailures (good_lines text) new.failures.items
  pub last : ℕ
  pub there : last ≤ length (good_lines text)
  pub is_last : IsLast new.failures.items new.waiting last (most_of stop lines)
  pub waits : (x : Setting) → IsSetting x text engine size before → Waits x new.failures.items done new.waiting held later
  pub image : (x : Setting) → StandsFor x [] engine → IsImage x [] size before.content → HoldsFrom x new.failures.items (good_lines text) last lines size before after

-- to so many lines the replies are written, the next one not whole
pub record PlayedCut (text failures : List ℕ) (lines : ℕ) (engine : Engine) (held later : Option (List ℕ)) (size : ℕ) (before after : Shown) : Type 0 where
  pub numbers : AreFailures (good_lines text) failures
  pub early : AreUpTo (lines + 1) failures
  pub cut : (x : Setting) → IsSetting x text engine size before → AppendedCut x text failures lines held later
  pub image : (x : Setting) → StandsFor x [] engine → IsImage x [] size before.content → ImageAt x text failures SinkFailed lines size before after

abbrev pub Played : List ℕ → Stop → ℕ → Engine → Player → Option (List ℕ) → Option (List ℕ) → Option (List ℕ) → ℕ → Shown → Shown → Type 0
Played text SinkFailed lines engine new left held later size before after = PlayedCut text new.failures.items lines engine held later size before after
Played text stop lines engine new left held later size before after = PlayedTo text stop lines engine new left held later size before after

-- ---- statuses
