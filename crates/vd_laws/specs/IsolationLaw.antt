-- What other devices do doesn't show.
use Rattle.std.specs.Prelude.{ℕ, List, ◌∷◌, ◌++◌, Bool, false, IsTrue, ◌≡◌}
use Rattle.vd_model.specs.declared.step.Step.{Step}
use Rattle.vd_model.specs.Setting.{Setting}
use Rattle.vd_model.specs.History.{Entry, History, reply}
use Rattle.vd_model.specs.Agree.{Agree, concerns, is_private}
use Rattle.vd_laws.specs.Among.{Among}

-- of some steps, each that names the device or moves the clock shares no limit with other devices
abbrev pub ArePrivate : List ℕ → History → Type 0
ArePrivate d steps = (entry : Entry) → Among entry steps → IsTrue (concerns d entry.step) → IsTrue (is_private d entry.step)

pub record IsolationLaw (x : Setting) (h : History) : Type 0 where
  -- a history that agrees with this one on a device answers each private line of the device alike
  pub alike : (d : List ℕ) (g : History) → Agree x d h g
      → (step : Step) (failed : Bool) → IsTrue (is_private d step) → reply x h step failed ≡ reply x g step failed
  -- so a step of another device may be left out: after further private lines of the device nothing of it shows
  pub unshown : (d : List ℕ) (other : Entry) → concerns d other.step ≡ false → (later : History) → ArePrivate d later
      → (step : Step) (failed : Bool) → IsTrue (is_private d step) → reply x (later ++ other ∷ h) step failed ≡ reply x (later ++ h) step failed
