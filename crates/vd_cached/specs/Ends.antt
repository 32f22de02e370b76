-- What a run over a cache is given, and how it ends.
use Rattle.std.specs.Prelude.{ℕ, ◌+◌, ◌<◌, ◌≤◌, ◌≡◌, ◌⊎◌, ◌==◌, ◌&&◌, ◌||◌, not, if◌then◌else◌, Bool, true, List, [], length, take, Option, Some}
use Rattle.vd_model.specs.Setting.{Setting}
use Rattle.vd_model.specs.History.{deeds_of}
use Rattle.vd_output.specs.Out.{good_lines, history_after}
use Rattle.vd_options.specs.Words.{Sizes}
use Rattle.vd_engine.specs.Image.{IsImage}
use Rattle.vd_loop.specs.declared.progress.Stop.{Stop}
use Rattle.vd_top.specs.Executes.{RoseBy}
use Rattle.vd_top.specs.Pictures.{IsDepicted}
use Rattle.vd_loop.specs.Statuses.{stop_of_status, is_status}
use Rattle.vd_cached.specs.Words.{cached_sizes}

-- the words are those of a run over a cache with these sizes, and this text is left in the source
pub record IsGivenCached (words : List (List ℕ)) (sizes : Sizes) (left : Option (List ℕ)) (text : List ℕ) : Type 0 where
  pub asked : cached_sizes words ≡ Some sizes
  pub told : left ≡ Some text

-- the status after the last flush, which succeeded or not, of a run that ended with this one
abbrev pub flushed_status : Bool → ℕ → ℕ
flushed_status flushed n = if (n == 0) && not flushed then 9 else n

-- the status of the run itself
abbrev pub run_status : ℕ → ℕ
run_status n = if n == 9 then 0 else n

-- why the run itself stopped
abbrev pub stop_of_cached : ℕ → Stop
stop_of_cached n = stop_of_status (run_status n)

-- a status that a script over a cache can end with
abbrev pub is_cached_status : ℕ → Bool
is_cached_status n = is_status n || (n == 9)

-- the last flush succeeded for certain: the status says so, or the disk failed no more often than at these lines
abbrev pub IsFlushed : ℕ → List ℕ → ℕ → ℕ → Type 0
IsFlushed status failures before now = (status ≡ 0) ⊎ (RoseBy (length failures + 1) before now → ⊥)

-- the disk holds the run of the lines whose replies are written; of one line more perhaps, where the sink failed or memory was short
pub record DiskAt (x : Setting) (text failures : List ℕ) (stop : Stop) (lines size : ℕ) (content : Option (List ℕ)) : Type 0 where
  pub run : ℕ
  pub near : IsDepicted stop lines run
  pub there : run ≤ length (good_lines text)
  pub holds : IsImage x (deeds_of x (history_after failures 1 [] (take run (good_lines text)))) size content
