use Rattle.std.proofs.Common.{subst}
use Rattle.vd_request_lines.specs.Stands.{RequestsStand}
use Rattle.vd_request_lines.proofs.Turning.{not_missing}
use Rattle.vd_request_lines.proofs.adding.add.Goals as goal

pub returns-in-Some-clause-line : goal.returns-in-Some-clause-line
returns-in-Some-clause-line g c = λ x made acts m q s r known.
    c.add_on.ensures.line x made acts m q s (subst (λ k. RequestsStand acts q k) c.in-Some.is r) (not_missing made acts q c.args.queue.now known c.if-is_none.ensures)
