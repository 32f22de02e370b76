-- How often a run flushed the image.
use Rattle.std.specs.Prelude.{ℕ, ◌+◌, ◌≡◌, List, [], ◌∷◌, Bool, true, false, if◌then◌else◌, Result, IfOk}
use Rattle.vd_io.specs.Told.{Rose}
use Rattle.vd_model.specs.declared.answer.Answer.{Answer}
use Rattle.vd_model.specs.declared.step.Step.{Step}
use Rattle.vd_model.specs.declared.step.Step.TheVariants.{Queue}
use Rattle.vd_model.specs.Setting.{Setting}
use Rattle.vd_model.specs.Deeds.{Deed, acts_of_device}
use Rattle.vd_model.specs.History.{History, deeds_of, reply}
use Rattle.vd_instance.specs.Flushes.{is_flush}

-- a step that is answered so after these deeds executed a flush with status 0
abbrev pub is_flush_step : Setting → List Deed → Step → Answer → Bool
is_flush_step x done (Queue name step) answer = is_flush x (acts_of_device name done) step answer
is_flush_step x done step answer = false

-- how many steps of a history did
unfoldable pub flushes : Setting → History → ℕ
flushes x [] = 0
flushes x (entry ∷ before) = flushes x before + (if is_flush_step x (deeds_of x before) entry.step (reply x before entry.step entry.failed) then 1 else 0)

-- a step that was answered so flushed the image, where it is one that does
abbrev pub Counts : {E : Type 0} → Result Bool E → (Bool → Bool) → ℕ → ℕ → Type 0
Counts r flushed before now = IfOk r (λ failed. flushed failed ≡ true → Rose before now)
