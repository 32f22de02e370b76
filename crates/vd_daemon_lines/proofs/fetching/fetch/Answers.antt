use Rattle.std.proofs.Common.{sym, ◌∙◌}
use Rattle.vd_daemon_lines.proofs.FetchLines.{fails, taken, takes_so}
use Rattle.vd_daemon_lines.proofs.fetching.fetch.Goals as goal

pub returns-in-Err-clause-line : goal.returns-in-Err-clause-line
returns-in-Err-clause-line g c = λ x made acts q s d known.
    let w = c.fetched-ended.ensures in
    let here = sym c.in-Some.is ∙ c.ready_place.ensures.place made acts q known in
    fails x made acts q _ _ _ _ c.args.daemon.now c.fetched-ended.new.daemon s d w.after c.sees.ensures c.sees-2.ensures c.in-Some.place c.args.queue.now known here w.begins
    (λ said. g.T.Hears.heard c.args.told.now said c.tell_failure.new.told) c.in-Err.ensures.memory_stays c.in-Err.ensures.stays
    c.in-Err.error c.tell_failure.result c.in-Err.ensures.fetched c.tell_failure.ensures

pub returns-in-Ok-clause-line : goal.returns-in-Ok-clause-line
returns-in-Ok-clause-line g c = λ x made acts q s d known.
    let w = c.fetched-ended.ensures in
    let here = sym c.in-Some.is ∙ c.ready_place.ensures.place made acts q known in
    let takes = takes_so x made acts q _ _ _ _ c.args.daemon.now c.fetched-ended.new.daemon s d w.after c.sees.ensures c.sees-2.ensures c.in-Some.place c.args.queue.now known here w.begins c.in-Ok.ensures.fetched in
    taken x made acts q _ _ _ _ c.args.daemon.now c.fetched-ended.new.daemon s d w.after c.sees.ensures c.sees-2.ensures c.in-Some.place c.args.queue.now known here w.begins takes
    (λ said. g.T.Hears.heard c.args.told.now said c.tell_fetched.new.told) c.in-Ok.ensures.event c.in-Ok.fetched c.in-Ok.ensures.in_hand c.tell_fetched.ensures
