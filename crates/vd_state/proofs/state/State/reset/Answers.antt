use Rattle.vd_state.specs.Inside.{kept_of}
use Rattle.vd_state.proofs.Counts.{counts_inside, queue_after_reset_within}
use Rattle.vd_state.proofs.state.State.reset.Goals as goal

pub returns-clause-counts : goal.returns-clause-counts
returns-clause-counts c = λ most w. queue_after_reset_within most (kept_of c.self.inside) c.clear_all.new.queues.items (counts_inside c.self.view_is w) c.clear_all.ensures
