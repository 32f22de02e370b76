use Rattle.std.proofs.Common.{◌≡◌, drop}
use Rattle.vr_pair.specs.QueueLists.{is_readable_first}
use Rattle.vr_queue.proofs.InOrder.{rest_in_order}
use Rattle.vr_queue.proofs.responder.is_readable_first.Given as goal

abbrev pub invariant-loop-part : goal.invariant-loop-part
invariant-loop-part l = rest_in_order l.any_writable (drop l.part-index l.parts) ≡ is_readable_first l.parts
