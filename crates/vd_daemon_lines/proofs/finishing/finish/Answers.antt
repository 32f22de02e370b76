use Rattle.std.proofs.Common.{ap}
use Rattle.vd_model.specs.Acts.{state_acts}
use Rattle.vd_model.specs.State.{queue_info}
use Rattle.vd_model.specs.BusTurns.{is_missing}
use Rattle.vd_model.specs.Creation.{has_feature}
use Rattle.vd_daemon_lines.proofs.KnownLemmas.{is_there_by}
use Rattle.vd_daemon_lines.proofs.FinishLines.{finishes_as}
use Rattle.vd_daemon_lines.proofs.finishing.finish.Goals as goal

pub returns-clause-line : goal.returns-clause-line
returns-clause-line g c = λ x made acts q s d known.
    let w = c.finished-ended.ensures in
    let there = is_there_by (is_missing made q) (queue_info (state_acts acts) q) c.args.queue.now.info known.info c.if-is_none.ensures in
    finishes_as x made acts q _ _ _ _ c.args.daemon.now c.finished-ended.new.daemon s d w.after c.sees.ensures c.sees-2.ensures there
    (λ said. g.T.Hears.heard c.args.told.now said c.tell_finished.new.told) (has_feature c.args.queue.now.features 29) (ap (λ n. has_feature n 29) known.features)
    c.finished-ended.result (record { refused = w.refused.1; untouched = w.untouched; finished = w.finished; len = w.len; done = w.done; stays = w.stays; placed = w.placed })
    c.tell_finished.ensures
