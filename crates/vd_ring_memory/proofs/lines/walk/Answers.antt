use Rattle.std.proofs.Common.{refl, Ok}
use Rattle.vd_model.specs.Trace.{whole}
use Rattle.vd_domain.specs.Seen.{daemon_map}
use Rattle.vd_answers.proofs.Telling.{may_tell}
use Rattle.vd_ring_memory.specs.Known.{After}
use Rattle.vd_ring_memory.proofs.Walks.{turn_is, stays, fails}
use Rattle.vd_ring_memory.proofs.lines.walk.Goals as goal

pub returns-in-Err-clause-line : goal.returns-in-Err-clause-line
returns-in-Err-clause-line g c = λ x made acts q s known.
    let w = c.walked-ended.ensures in
    fails x made acts q c.args.chain.now.head c.args.chain.now.queue c.args.chain.now.indirect c.in-Some.info (daemon_map c.args.domain.now c.args.pool.now) (After x acts c.walked-ended.new.domain c.walked-ended.new.pool) (λ said. g.T.Hears.heard c.args.told.now said c.tell_failure.new.told)
    known c.in-Some.is c.if-info-eq0.false (c.sees.ensures x acts s)
    (stays x acts _ _ _ _ s w.after w.told c.sees.ensures c.sees-2.ensures) c.in-Err.error c.tell_failure.result c.in-Err.ensures.computed c.tell_failure.ensures

pub returns-in-Ok-clause-line : goal.returns-in-Ok-clause-line
returns-in-Ok-clause-line g c = λ x made acts q s known.
    let w = c.walked-ended.ensures in
    may_tell (Ok tt) (turn_is x made acts q c.args.chain.now.head c.args.chain.now.queue c.args.chain.now.indirect c.in-Some.info (daemon_map c.args.domain.now c.args.pool.now) (whole c.in-Ok.chain) known c.in-Some.is c.if-info-eq0.false (c.sees.ensures x acts s) c.in-Ok.ensures.computed)
    refl c.tell_chain.ensures
    (stays x acts _ _ _ _ s w.after w.told c.sees.ensures c.sees-2.ensures)
