use Rattle.std.proofs.Common.{subst}
use Rattle.vd_request_lines.specs.Stands.{RequestsStand}
use Rattle.vd_request_lines.proofs.Turning.{not_missing, events_are}
use Rattle.vd_request_lines.proofs.polling.poll.Goals as goal

pub returns-in-Some-clause-line : goal.returns-in-Some-clause-line
returns-in-Some-clause-line g c = λ x made acts q s r owned known.
    c.poll_on.ensures.line x made acts q s (subst (λ k. RequestsStand acts q k) c.in-Some.is r) owned (not_missing made acts q c.args.queue.now known c.if-is_none.ensures) (events_are made acts q c.args.queue.now known)
