-- What holds before a block daemon's first fetch on a queue.
use Rattle.std.specs.Prelude.{ℕ, List, None, ◌≡◌}
use Rattle.vd_model.specs.Setting.{Setting}
use Rattle.vd_model.specs.Acts.{Act}
use Rattle.vd_model.specs.Queues.{before_first, finishes}
use Rattle.vd_model.specs.History.{History}
use Rattle.vd_laws.specs.Runs.{IsMoment}

-- at each moment of a history a queue on which no position began has no finished request to count
abbrev pub FirstFetchLaw : Setting → History → Type 0
FirstFetchLaw x h = (d : List ℕ) (acts : List Act) → IsMoment x h d acts → (q : ℕ) → before_first acts q ≡ None → finishes acts q ≡ 0
