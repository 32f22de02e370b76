use Rattle.std.proofs.Common.{◌≡◌, ◌++◌, map, take, drop}
use Rattle.vd_state.specs.Kept.{queue_after_reset}
use Rattle.vd_state.proofs.queue.clear_all.Given as goal

abbrev pub invariant-loop-queue : goal.invariant-loop-queue
invariant-loop-queue l = l.queue-items ≡ map queue_after_reset (take l.queue-index l.initial.queue-items) ++ drop l.queue-index l.initial.queue-items
