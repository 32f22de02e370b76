use Rattle.vr_chain.proofs.Tracks.{ends-ending_of}
use Rattle.vr_chain.proofs.Unique.{one_end}
use Rattle.vr_chain.proofs.walker.one_trace.Goals as goal

pub returns-clause-ends : goal.returns-clause-ends
returns-clause-ends c = ends-ending_of

pub returns-clause-once : goal.returns-clause-once
returns-clause-once c = one_end
