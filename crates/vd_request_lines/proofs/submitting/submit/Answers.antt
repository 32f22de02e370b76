use Rattle.std.proofs.Common.{subst}
use Rattle.vd_request_lines.specs.Stands.{RequestsStand}
use Rattle.vd_request_lines.proofs.Turning.{not_missing}
use Rattle.vd_request_lines.proofs.submitting.submit.Goals as goal

pub returns-in-Some-clause-line : goal.returns-in-Some-clause-line
returns-in-Some-clause-line g c = λ x made acts q s r known busy.
    c.submit_on.ensures.line x made acts q s (subst (λ k. RequestsStand acts q k) c.in-Some.is r) (not_missing made acts q c.args.wanted.now.queue known c.if-is_none.ensures) known.features busy
