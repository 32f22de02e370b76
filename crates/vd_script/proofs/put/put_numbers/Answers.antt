use Rattle.std.proofs.Common.{decimal}
use Rattle.vd_script.proofs.Lines.{words_step}
use Rattle.vd_script.proofs.put.put_numbers.Goals as goal

pub loop-number-preserved : goal.loop-number-preserved
loop-number-preserved c = words_step decimal c.args.into.now c.loop-number.into c.put_number.new.into c.args.numbers.now c.loop-number.number-index _ c.loop-number-test.true c.loop-number.invariant c.in_ok-put_number.ensures
