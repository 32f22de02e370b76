use Rattle.std.proofs.Common.{Some, ap, ◌∙◌}
use Rattle.vr_queue.proofs.Asked.{asked}
use Rattle.vr_queue.proofs.responder.Responder.answer.Goals as goal

pub answer_asked-requires-clause-asked : goal.answer_asked-requires-clause-asked
answer_asked-requires-clause-asked g c = asked c.args.line.now c.in-Some.asked (c.in_ok-asked.ensures ∙ ap Some c.in-Some.is)
