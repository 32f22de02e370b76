-- What is known of a queue, by the acts.
use Rattle.std.specs.Prelude.{ℕ, ◌≡◌, List, Some, None, if◌then◌else◌}
use Rattle.vd_model.specs.Creation.{Creation}
use Rattle.vd_model.specs.Acts.{Act, state_acts}
use Rattle.vd_model.specs.State.{queue_info, features_of}
use Rattle.vd_model.specs.BusTurns.{is_missing}
use Rattle.vd_request_lines.specs.declared.held.KnownDriver.{KnownDriver}

-- a queue that isn't there, or what its state tells, and the features that were accepted
pub record IsKnown (made : Creation) (acts : List Act) (q : ℕ) (queue : KnownDriver) : Type 0 where
  pub info : queue.info ≡ (if is_missing made q then None else Some (queue_info (state_acts acts) q))
  pub features : queue.features ≡ features_of (state_acts acts)
