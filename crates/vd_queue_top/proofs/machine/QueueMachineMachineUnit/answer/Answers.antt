use Rattle.std.proofs.Common.{List}
use Rattle.vd_queue_top.proofs.Replies.{are_replies, led_more}
use Rattle.vd_queue_top.proofs.machine.QueueMachineMachineUnit.answer.Goals as goal

pub returns-in-Ok-clause-answered : goal.returns-in-Ok-clause-answered
returns-in-Ok-clause-answered g c = λ first outside done replies count led q stood.
    let before = led q stood in
    let told = c.in-Ok.ensures.lists before.now before.stood in
    led_more q done replies c.args.line.now c.answer.new.self.reply.items (g.P.Pair.stands c.args.self.now.responder.pair) (g.P.Pair.stands c.answer.new.self.pair) before told.1.0 told.1.1

pub returns-in-Err-Memory-clause-short : goal.returns-in-Err-Memory-clause-short
returns-in-Err-Memory-clause-short g c = λ first outside done replies count led q stood.
    are_replies q done replies (g.P.Pair.stands c.args.self.now.responder.pair) (led q stood)
