-- The lines on a queue leave what pending requests have their own.
use Rattle.std.proofs.Common.{◌≡◌, ℕ, Bool, List, ◌++◌, Some}
use Rattle.vd_model.specs.declared.step.QueueStep.{QueueStep}
use Rattle.vd_model.specs.declared.step.QueueStep.TheVariants as queue
use Rattle.vd_model.specs.Setting.{Setting}
use Rattle.vd_model.specs.Creation.{Creation}
use Rattle.vd_model.specs.Deeds.{Seen}
use Rattle.vd_model.specs.Queues.{Ring, ring_of}
use Rattle.vd_model.specs.DaemonTurns.{walk_turn, fetch_turn, execute_turn, finish_turn}
use Rattle.vd_model.specs.History.{disk_of, queue_turn}
use Rattle.vd_request_laws.specs.Owned.{AreOwned, HasOwnHeads}
use Rattle.vd_request_laws.proofs.QuietQueues.{walk_quiet, fetch_quiet, execute_quiet, finish_quiet}
use Rattle.vd_request_laws.proofs.Lines.{quiets, session, bus}
use Rattle.vd_request_laws.proofs.RingLines.{ring_owns, unring_owns, add_owns, publish_owns}
use Rattle.vd_request_laws.proofs.SubmitLines.{submit_owns}
use Rattle.vd_request_laws.proofs.PollLines.{ring_poll_owns}

pub queue_owns : (x : Setting) (made : Creation) (name : List ℕ) (seen : Seen) (failed : Bool) (step : QueueStep) → AreOwned seen.acts made.queues → ((q : ℕ) (r : Ring) → ring_of seen.acts q ≡ Some r → HasOwnHeads seen.acts q)
    → AreOwned ((queue_turn x made name seen failed step).acts ++ seen.acts) made.queues
queue_owns x made name seen failed (queue.Walk q head) h heads = session made seen.acts h _ (quiets made seen.acts h (walk_turn x made seen.acts q head) (walk_quiet x made seen.acts q head))
queue_owns x made name seen failed (queue.Fetch q) h heads = session made seen.acts h _ (quiets made seen.acts h (fetch_turn x made seen.acts q) (fetch_quiet x made seen.acts q))
queue_owns x made name seen failed (queue.Execute q) h heads =
    session made seen.acts h _ (quiets made seen.acts h (execute_turn x made (disk_of made name seen) failed seen.acts q) (execute_quiet x made (disk_of made name seen) failed seen.acts q))
queue_owns x made name seen failed (queue.Finish q) h heads = session made seen.acts h _ (quiets made seen.acts h (finish_turn x made seen.acts q) (finish_quiet x made seen.acts q))
queue_owns x made name seen failed (queue.Ring q size) h heads = bus made seen.acts h _ (ring_owns made seen.acts h q x size)
queue_owns x made name seen failed (queue.Unring q) h heads = bus made seen.acts h _ (unring_owns made seen.acts h q)
queue_owns x made name seen failed (queue.Add q parts) h heads = bus made seen.acts h _ (add_owns made seen.acts h q parts)
queue_owns x made name seen failed (queue.Publish q) h heads = bus made seen.acts h _ (publish_owns made seen.acts h q x)
queue_owns x made name seen failed (queue.Submit q asked) h heads = bus made seen.acts h _ (submit_owns made seen.acts h x q asked)
queue_owns x made name seen failed (queue.Poll q) h heads = bus made seen.acts h _ (ring_poll_owns made seen.acts h q (heads q) x)
