use Rattle.std.proofs.Common.{subst, sym}
use Rattle.vr_pair.specs.QueueLists.{empty_lists}
use Rattle.vd_queue_top.proofs.Replies.{are_replies}
use Rattle.vd_queue_top.proofs.Ran.{queue_ran}
use Rattle.vd_queue_top.proofs.lines.queue_lines.Goals as goal

pub returns-clause-ran : goal.returns-clause-ran
returns-clause-ran g c = λ size stood.
    let first = subst (λ p. g.P.Pair.stands p (empty_lists size)) (sym c.new-machine.ensures) stood in
    queue_ran size _ _ _ c.run_lines.result.1 _ _ _ _ c.run_lines.ensures.ran c.run_lines.ensures.known c.run_lines.ensures.no_line
    (λ done replies led. are_replies (empty_lists size) done replies _ (led (empty_lists size) first))
    (λ done replies line due. due (empty_lists size) first)
