use Rattle.vd_queue_top.proofs.Ran.{none_ran}
use Rattle.vd_queue_top.proofs.top.lines_if_made.Goals as goal

pub returns-in-Err-clause-ran : goal.returns-in-Err-clause-ran
returns-in-Err-clause-ran g c = λ size made. none_ran size c.without_memory.result _ _ c.without_memory.ensures
