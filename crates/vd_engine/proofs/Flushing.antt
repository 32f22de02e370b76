-- Which steps flush the image.
use Rattle.std.proofs.Common.{◌≡◌, ℕ, Bool, true, false, refl, sym, ◌∙◌, true≢false, List, Result, Ok, Err}
use Rattle.vd_num.specs.declared.errno.Errno.{Errno}
use Rattle.vd_model.specs.declared.answer.Answer.TheVariants as answer
use Rattle.vd_model.specs.declared.step.QueueStep.{QueueStep}
use Rattle.vd_model.specs.declared.step.QueueStep.TheVariants as queue
use Rattle.vd_model.specs.Setting.{Setting}
use Rattle.vd_model.specs.Acts.{Act}
use Rattle.vd_instance.specs.Flushes.{is_flush, holds_flush}
use Rattle.vd_instance.proofs.Flushing.{never_both}
use Rattle.vd_engine.specs.Flushes.{Counts}

-- a line that is refused doesn't
pub refused_flush : (x : Setting) (acts : List Act) (step : QueueStep) (errno : Errno) → is_flush x acts step (answer.Err errno) ≡ false
refused_flush x acts (queue.Execute q) errno = never_both (holds_flush x acts q)
refused_flush x acts (queue.Walk q head) errno = refl
refused_flush x acts (queue.Fetch q) errno = refl
refused_flush x acts (queue.Finish q) errno = refl
refused_flush x acts (queue.Ring q size) errno = refl
refused_flush x acts (queue.Unring q) errno = refl
refused_flush x acts (queue.Add q parts) errno = refl
refused_flush x acts (queue.Publish q) errno = refl
refused_flush x acts (queue.Submit q asked) errno = refl
refused_flush x acts (queue.Poll q) errno = refl

-- one that never flushes
pub counts_none : {E : Type 0} (r : Result Bool E) (flushed : Bool → Bool) (before now : ℕ) → ((failed : Bool) → flushed failed ≡ false) → Counts r flushed before now
counts_none (Ok failed) flushed before now none = λ e. absurd (true≢false (sym e ∙ none failed))
counts_none (Err error) flushed before now none = tt

-- the same line under another name
pub counts_as : {E : Type 0} (r : Result Bool E) (one other : Bool → Bool) (before now : ℕ) → ((failed : Bool) → other failed ≡ one failed) → Counts r one before now → Counts r other before now
counts_as (Ok failed) one other before now same h = λ e. h (sym (same failed) ∙ e)
counts_as (Err error) one other before now same h = tt
