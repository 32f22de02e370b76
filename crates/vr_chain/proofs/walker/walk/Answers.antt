use Rattle.vd_model.specs.Trace.{trace_start, ending_of}
use Rattle.vr_chain.proofs.Tracks.{ends-ending_of}
use Rattle.vr_chain.proofs.Unique.{only_end}
use Rattle.vr_chain.proofs.walker.walk.Goals as goal

pub returns-clause-only : goal.returns-clause-only
returns-clause-only g c m told = only_end (trace_start c.args.ring.now c.args.head c.args.indirect) m c.follow.result (c.follow.ensures.found m told)

pub returns-clause-computed : goal.returns-clause-computed
returns-clause-computed g c m told =
    let s = trace_start c.args.ring.now c.args.head c.args.indirect in
    only_end s m c.follow.result (c.follow.ensures.found m told) (ending_of s m) (ends-ending_of s m)
