use Rattle.vr_pair.specs.QueueLines.{given_part}
use Rattle.vr_queue.proofs.Words.{words_step}
use Rattle.vr_queue.proofs.reply.put_parts.Goals as goal

pub loop-part-preserved : goal.loop-part-preserved
loop-part-preserved c = words_step given_part c.args.into.now.items c.loop-part.into.items c.put_part.new.into.items c.args.parts.now c.loop-part.part-index _ c.loop-part-test.true c.loop-part.invariant c.in_ok-put_part.ensures
