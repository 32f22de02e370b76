use Rattle.std.proofs.Common.{ap, refl, false}
use Rattle.vd_model.specs.Acts.{state_acts}
use Rattle.vd_model.specs.State.{queue_info}
use Rattle.vd_model.specs.BusTurns.{is_missing}
use Rattle.vd_daemon_lines.proofs.KnownLemmas.{is_there_by}
use Rattle.vd_daemon_lines.proofs.Executions.{refused_idle, done, stays_put, was_executed}
use Rattle.vd_daemon_lines.proofs.executing.execute.Goals as goal

pub returns-in-Ok-clause-line : goal.returns-in-Ok-clause-line
returns-in-Ok-clause-line g c = λ x made acts q b s known is.
    let e = c.in-Ok.ensures.executed in
    let there = is_there_by (is_missing made q) (queue_info (state_acts acts) q) c.args.queue.now.info known.info c.if-is_none.ensures in
    done x made acts q b c.in-Ok.executed.failed c.args.drive.now.window c.args.daemon.now s (λ said. g.T.Hears.heard c.args.told.now said c.tell_status.new.told)
    (g.I.Image.content c.args.disk.now) (g.I.Image.content c.execute.new.disk) e.hand e.outcome e.in_hand there (e.executes.ends b is) c.execute.new.self e.kept
    c.in-Ok.executed.status e.answered c.tell_status.ensures

pub returns-in-Err-clause-line : goal.returns-in-Err-clause-line
returns-in-Err-clause-line g c = λ x made acts q b s known is.
    let there = is_there_by (is_missing made q) (queue_info (state_acts acts) q) c.args.queue.now.info known.info c.if-is_none.ensures in
    refused_idle x made acts q b false c.args.drive.now.window c.args.daemon.now s (λ said. g.T.Hears.heard c.args.told.now said c.refused-in-Err.new.self)
    (g.I.Image.content c.args.disk.now) (g.I.Image.content c.execute.new.disk) there (c.in-Err.ensures.refused.0 refl) (ap g.I.Image.content c.in-Err.ensures.disk_stays)
    c.execute.new.self c.in-Err.ensures.stays c.refused-in-Err.ensures

pub returns-in-Ok-clause-goes_on : goal.returns-in-Ok-clause-goes_on
returns-in-Ok-clause-goes_on g c = λ x acts q s.
    let e = c.in-Ok.ensures.executed in
    was_executed x acts q c.args.daemon.now c.execute.new.self e.hand e.outcome s e.in_hand e.kept

pub returns-in-Err-clause-goes_on : goal.returns-in-Err-clause-goes_on
returns-in-Err-clause-goes_on g c = λ x acts q s. stays_put x acts q c.args.daemon.now c.execute.new.self c.in-Err.ensures.stays s
