use Rattle.std.proofs.Common.{◌≡◌, ◌++◌, map, take}
use Rattle.vd_model.specs.Text.{behind}
use Rattle.vr_pair.specs.QueueLines.{given_part}
use Rattle.vr_queue.proofs.reply.put_parts.Given as goal

abbrev pub invariant-loop-part : goal.invariant-loop-part
invariant-loop-part l = l.into.items ≡ l.fn.into.items ++ behind 32 (map given_part (take l.part-index l.parts))
