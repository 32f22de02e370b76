-- What a line on a queue does with the image.
use Rattle.std.specs.Prelude.{ℕ, ◌+◌, ◌*◌, ◌<◌, ◌≡◌, List, [], slice_index, Bool, true, false, Option, Some, Result, Ok, Err, unwrap_or}
use Rattle.vd_model.specs.declared.answer.Answer.{Answer}
use Rattle.vd_model.specs.declared.memory.Window.{Window}
use Rattle.vd_model.specs.declared.step.QueueStep.{QueueStep}
use Rattle.vd_model.specs.declared.step.QueueStep.TheVariants.{Execute}
use Rattle.vd_model.specs.Acts.{Act}
use Rattle.vd_model.specs.Turn.{Turn}
use Rattle.vd_model.specs.Deeds.{Seen}

abbrev pub is_execute : QueueStep → Bool
is_execute (Execute queue) = true
is_execute step = false

-- a window, and no sectors where there is none
abbrev pub window_or_none : Option Window → Window
window_or_none o = unwrap_or o (record { first = 0; count = 0 })

-- the window is that which the line sees, and the image tells its bytes
pub record IsWindow (content : Option (List ℕ)) (window : Window) (seen : Seen) : Type 0 where
  pub is : window ≡ window_or_none seen.window
  pub bytes : List ℕ
  pub told : content ≡ Some bytes
  pub disk : (i : ℕ) → i < 512 * window.count → seen.disk i ≡ slice_index bytes (512 * window.first + i)

-- the answer of the turn was heard that a line has where the image failed at it or not, and what was changed stands for that
-- turn's acts; without memory it stands for what it stood for
abbrev pub Plays : {E : Type 0} → (Answer → Type 0) → (Bool → Turn Act) → (List Act → Type 0) → Result Bool E → Type 0
Plays heard turn After (Ok failed) = heard (turn failed).answer × After (turn failed).acts
Plays heard turn After (Err error) = After []
