use Rattle.std.proofs.Common.{ℕ, ◌*◌, ◌≤◌}
use Rattle.vr_queue.proofs.tests.a_session_is_answered.Given as goal

abbrev pub invariant-loop-line : goal.invariant-loop-line
invariant-loop-line g l = l.responder.pair.driver.placed ≤ 64 * l.line-index
