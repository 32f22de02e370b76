-- The block daemon's position on a queue, and its request in hand.
use Rattle.std.specs.Prelude.{ℕ, ◌+◌, List, IsTrue, if◌then◌else◌, is_some, Some, ◌≡◌}
use Rattle.vd_model.specs.Setting.{Setting}
use Rattle.vd_model.specs.Acts.{Act, state_acts}
use Rattle.vd_model.specs.State.{is_ready}
use Rattle.vd_model.specs.Queues.{before_first, fetches, finishes, in_hand}
use Rattle.vd_model.specs.History.{History}
use Rattle.vd_laws.specs.Runs.{IsMoment}

-- how many requests are in hand on a queue, one or none
abbrev pub requests_in_hand : List Act → ℕ → ℕ
requests_in_hand acts q = if is_some (in_hand acts q) then 1 else 0

-- where a block daemon of any device is on its queues, at each moment of a history
pub record PositionLaw (x : Setting) (h : History) : Type 0 where
  -- it has a position on a ready queue alone
  pub ready : (d : List ℕ) (acts : List Act) → IsMoment x h d acts → (q : ℕ) → IsTrue (is_some (before_first acts q)) → IsTrue (is_ready (state_acts acts) q)
  -- while a request is in hand it has one
  pub there : (d : List ℕ) (acts : List Act) → IsMoment x h d acts → (q : ℕ) → IsTrue (is_some (in_hand acts q)) → IsTrue (is_some (before_first acts q))
  -- it finished as many requests as it fetched, but for the one in hand
  pub counted : (d : List ℕ) (acts : List Act) → IsMoment x h d acts → (q : ℕ) → fetches acts q ≡ finishes acts q + requests_in_hand acts q
  -- a request is fetched from a ready queue, and while no other is in hand
  pub fetched : (d : List ℕ) (acts : List Act) → IsMoment x h d acts → (q : ℕ) (earlier : List Act) → in_hand acts q ≡ Some earlier → IsTrue (is_ready (state_acts earlier) q)
