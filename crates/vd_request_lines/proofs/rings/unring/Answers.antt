use Rattle.std.proofs.Common.{refl, subst}
use Rattle.vd_answers.proofs.Telling.{tells_by}
use Rattle.vd_request_lines.specs.Stands.{RequestsStand}
use Rattle.vd_request_lines.proofs.Drops.{idle, dropped_after}
use Rattle.vd_request_lines.proofs.rings.unring.Goals as goal

pub returns-clause-line : goal.returns-clause-line
returns-clause-line g c = λ x made acts q s k owned known.
    let r = subst (λ k. RequestsStand acts q k) c.in-Some-kept.is k in
    tells_by (idle made acts q c.args.queue.now c.in-Some.info known c.in-Some.is c.in-Some-kept.held r c.if-info.false) refl c.done.ensures
    (dropped_after x acts c.drop_ring.new.pool q c.in-Some-kept.held c.drop_ring.new.memory (c.drop_ring.ensures.dropped x acts q s r owned))
