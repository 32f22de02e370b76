use Rattle.vd_control_path.proofs.EndLemmas.{counted_end, no_end, goes_on, same_ends, more_ends}
use Rattle.vd_control_path.proofs.ends.ends_counted.Goals as goal

pub returns-clause-ends : goal.returns-clause-ends
returns-clause-ends c = counted_end

pub returns-clause-stays : goal.returns-clause-stays
returns-clause-stays c = no_end

pub returns-clause-goes_on : goal.returns-clause-goes_on
returns-clause-goes_on c = goes_on

pub returns-clause-same : goal.returns-clause-same
returns-clause-same c = same_ends

pub returns-clause-more : goal.returns-clause-more
returns-clause-more c = more_ends
