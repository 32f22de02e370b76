use Rattle.std.proofs.Common.{refl}
use Rattle.vd_model.specs.Memory.{read}
use Rattle.vd_model.specs.Trace.{ending_at, ending_within}
use Rattle.vr_rows.proofs.tests.chains.by_definition.Goals as goal

pub returns-clause-round : goal.returns-clause-round
unfolding ending_within ending_at read
returns-clause-round c = refl

pub returns-clause-head : goal.returns-clause-head
unfolding ending_within ending_at read
returns-clause-head c = refl

pub returns-clause-next : goal.returns-clause-next
unfolding ending_within ending_at read
returns-clause-next c = refl

pub returns-clause-shape : goal.returns-clause-shape
unfolding ending_within ending_at read
returns-clause-shape c = refl

pub returns-clause-order : goal.returns-clause-order
unfolding ending_within ending_at read
returns-clause-order c = refl

pub returns-clause-chain : goal.returns-clause-chain
unfolding ending_within ending_at read
returns-clause-chain c = refl
