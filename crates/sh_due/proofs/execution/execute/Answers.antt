-- what was in hand is the request that is due
use Rattle.std.proofs.Common.{◌≡◌, Some, refl}
use Rattle.vd_io.specs.Memory.{Medium}
use Rattle.sh_due.proofs.PartLemmas.{executed_due, failed_due}
use Rattle.sh_due.proofs.execution.execute.Goals as goal

pub returns-then-executed-clause-same : goal.returns-then-executed-clause-same
returns-then-executed-clause-same c = λ _.
    failed_due _ _ (λ (i : Medium). Some i.bytes) (λ (i : Medium). i.calls.failed) (λ (i : Medium). i.flushes) _ _ _ _ c.in-Ok.executed
    c.requires.name refl refl c.if-executed.true c.in-Ok.ensures.executed

pub returns-clause-applied : goal.returns-clause-applied
returns-clause-applied c = λ _.
    executed_due _ _ _ (λ (i : Medium). Some i.bytes) (λ (i : Medium). i.calls.failed) (λ (i : Medium). i.flushes) _ _ _ _ c.in-Ok.executed
    c.requires.due c.requires.name refl refl c.if-executed.false c.in-Ok.ensures.executed
