-- Which lines' run the image holds.
use Rattle.std.specs.Prelude.{ℕ, ◌+◌, ◌≤◌, ◌≡◌, ◌⊎◌, List, [], take, length, Option}
use Rattle.vd_model.specs.Setting.{Setting}
use Rattle.vd_model.specs.History.{History, deeds_of}
use Rattle.vd_output.specs.Out.{good_lines, history_after}
use Rattle.vd_engine.specs.Image.{IsImage}
use Rattle.vd_engine.specs.Flushes.{flushes}
use Rattle.vd_loop.specs.declared.progress.Stop.{Stop}
use Rattle.vd_loop.specs.declared.progress.Stop.TheVariants.{End, SourceFailed, SinkFailed, Memory, BadLine, TooLong}
use Rattle.vd_top.specs.Executes.{RoseBy}

-- what is seen of an image: its bytes, if it tells them, and how often it was flushed
pub record Shown : Type 0 where
  pub content : Option (List ℕ)
  pub flushed : ℕ

abbrev pub shown : {I : Type 0} → (I → Option (List ℕ)) → (I → ℕ) → I → Shown
shown content flushed disk = record { content = content disk; flushed = flushed disk }

-- the image holds what a run stored, and was flushed since as often at least as flushes succeeded in the run
pub record HoldsRun (x : Setting) (h : History) (size : ℕ) (first now : Shown) : Type 0 where
  pub image : IsImage x (deeds_of x h) size now.content
  pub flushed : RoseBy (flushes x h) first.flushed now.flushed

-- the same of the run of the first m of these lines
abbrev pub Holds : Setting → List ℕ → List (List ℕ) → ℕ → ℕ → Shown → Shown → Type 0
Holds x failures lines m size first now = HoldsRun x (history_after failures 1 [] (take m lines)) size first now

-- the same of the run up to line `last`, the last execute that was carried out, and up to each later one of so many lines
abbrev pub HoldsFrom : Setting → List ℕ → List (List ℕ) → ℕ → ℕ → ℕ → Shown → Shown → Type 0
HoldsFrom x failures lines last count size first now = (m : ℕ) → last ≤ m → (m ≡ last) ⊎ (m ≤ count) → Holds x failures lines m size first now

-- so many lines' run an image holds after a run that stopped so, the replies to so many lines being written
abbrev pub IsDepicted : Stop → ℕ → ℕ → Type 0
IsDepicted SinkFailed lines m = (m ≡ lines) ⊎ (m ≡ lines + 1)
IsDepicted Memory lines m = (m ≡ lines) ⊎ (m ≡ lines + 1)
IsDepicted End lines m = m ≡ lines
IsDepicted SourceFailed lines m = m ≡ lines
IsDepicted BadLine lines m = m ≡ lines
IsDepicted TooLong lines m = m ≡ lines

-- the image holds the run of the lines whose replies are written; of one line more perhaps, where the sink failed or memory was short
pub record ImageAt (x : Setting) (text failures : List ℕ) (stop : Stop) (lines size : ℕ) (first now : Shown) : Type 0 where
  pub run : ℕ
  pub near : IsDepicted stop lines run
  pub there : run ≤ length (good_lines text)
  pub holds : Holds x failures (good_lines text) run size first now
