-- What a call on the engine promises that answers a line.
use Rattle.std.specs.Prelude.{ℕ, ◌+◌, ◌≡◌, List, ◌∷◌, ◌++◌, Bool, true, false, Option, Result, Ok, Err, MatchResult, IfOk}
use Rattle.vd_model.specs.declared.answer.Answer.{Answer}
use Rattle.vd_model.specs.Setting.{Setting}
use Rattle.vd_model.specs.Deeds.{Deed}
use Rattle.vd_model.specs.ControlTurns.{Outcome}
use Rattle.vd_model.specs.declared.step.Step.{Step}
use Rattle.vd_model.specs.History.{History, reply}
use Rattle.vd_engine.specs.declared.engine.Engine.{Engine}
use Rattle.vd_engine.specs.Image.{IsImage, HoldsOwn}
use Rattle.vd_engine.specs.Machine.{StandsAt, StandsFor}

-- the outcome's answer was heard, and the engine stands for what was done then
pub record Results (x : Setting) (heard : Answer → Type 0) (outcome : Outcome) (done : List Deed) (most : ℕ) (e : Engine) : Type 0 where
  pub says : heard outcome.answer
  pub stands : StandsAt x (outcome.deeds ++ done) (most + 1) e

-- a line that is answered with this outcome
pub record Does (heard : Answer → Type 0) (outcome : Setting → List Deed → Outcome) (old new : Engine) : Type 0 where
  pub line : (x : Setting) (done : List Deed) → StandsAt x done old.asked old → Results x heard (outcome x done) done old.asked new
  pub asked : new.asked ≡ old.asked

-- the same of a call that may find no memory, after which the engine stands as before
pub record MayDo {E : Type 0} (heard : Answer → Type 0) (outcome : Setting → List Deed → Outcome) (old new : Engine) (r : Result (Unit {0}) E) : Type 0 where
  pub line : (x : Setting) (done : List Deed) → StandsAt x done old.asked old
      → MatchResult r (λ _. Results x heard (outcome x done) done old.asked new) (λ _. StandsAt x done old.asked new)
  pub asked : new.asked ≡ old.asked

-- how a line ends that leaves the image alone, at which it can't fail
abbrev pub plain_of : {E : Type 0} → Result (Unit {0}) E → Result Bool E
plain_of (Ok u) = Ok false
plain_of (Err error) = Err error

-- the engine stands for what was done and some deeds more
pub record StandsForMore (x : Setting) (done : List Deed) (most : ℕ) (e : Engine) : Type 0 where
  pub more : List Deed
  pub stands : StandsAt x (more ++ done) (most + 1) e

-- the outcome is that of a line at which the image failed or not; one that touches the image is answered on an image that holds
-- what was done, as far as the line sees it (`line`). After the line the image holds its deeds too (`image`). Whatever an image
-- tells, the engine stands for some deeds more, or without memory for what was done (`more`)
pub record Serves {E : Type 0} (heard : Answer → Type 0) (outcome : Setting → List Deed → Bool → Outcome) (touches : Bool) (old new : Engine) (size : ℕ) (before after : Option (List ℕ)) (r : Result Bool E) : Type 0 where
  pub line : (x : Setting) (done : List Deed) → StandsAt x done old.asked old → (touches ≡ true → HoldsOwn x done × IsImage x done size before)
      → IfOk r (λ failed. Results x heard (outcome x done failed) done old.asked new)
  pub image : (x : Setting) (done : List Deed) → StandsAt x done old.asked old → HoldsOwn x done → IsImage x done size before
      → IfOk r (λ failed. IsImage x ((outcome x done failed).deeds ++ done) size after)
  pub more : (x : Setting) (done : List Deed) → StandsAt x done old.asked old → MatchResult r (λ _. StandsForMore x done old.asked new) (λ _. StandsAt x done old.asked new)
  pub asked : new.asked ≡ old.asked

-- the reply to a step of a history was heard, at which the image failed or not, and the engine stands for the history with it
pub record Goes (x : Setting) (heard : Answer → Type 0) (h : History) (step : Step) (failed : Bool) (new : Engine) : Type 0 where
  pub says : heard (reply x h step failed)
  pub stands : StandsFor x (record { step = step; failed = failed } ∷ h) new
