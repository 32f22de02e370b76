use Rattle.vd_queue_top.proofs.top.lines_on.Goals as goal

pub returns-in-Packed-clause-ran : goal.returns-in-Packed-clause-ran
returns-in-Packed-clause-ran g c = c.lines_if_made.ensures.ran c.args.asked.size c.new.ensures.lists

pub returns-in-Split-clause-ran : goal.returns-in-Split-clause-ran
returns-in-Split-clause-ran g c = c.lines_if_made-in-Split.ensures.ran c.args.asked.size c.new-in-Split.ensures.lists
