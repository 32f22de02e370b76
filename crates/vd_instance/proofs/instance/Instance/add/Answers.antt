use Rattle.vd_answers.proofs.Telling.{tells_ok}
use Rattle.vd_instance.proofs.Resting.{driver_rests}
use Rattle.vd_instance.proofs.instance.Instance.add.Goals as goal

pub returns-then-is_empty-clause-rest : goal.returns-then-is_empty-clause-rest
returns-then-is_empty-clause-rest g c = driver_rests c.args.self.now c.args.pool.now c.requires.held

pub returns-clause-line : goal.returns-clause-line
returns-clause-line g c = λ x made acts s. tells_ok (c.on_ring.ensures.line x made acts s)
