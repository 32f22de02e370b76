use Rattle.vd_num.proofs.Doubling.{doubles_end}
use Rattle.vd_num.proofs.number.align_of.Goals as goal

pub returns-clause-value : goal.returns-clause-value
returns-clause-value c = doubles_end c.loop-power.power c.args.pages c.loop-power.invariant.2 c.loop-power-test.false
