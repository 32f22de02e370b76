use Rattle.std.proofs.Common.{◌≡◌, ◌+◌, ◌≤◌, drop}
use Rattle.vr_pair.specs.QueueLists.{bytes_in, chain_limit}
use Rattle.vr_queue.proofs.responder.is_too_long.Given as goal

abbrev pub invariant-loop-part : goal.invariant-loop-part
invariant-loop-part l = (l.bytes + bytes_in (drop l.part-index l.parts) ≡ bytes_in l.parts) × (l.bytes ≤ chain_limit)
