use Rattle.vd_digits.proofs.NumberDigits.{begins, goes_on, ends}
use Rattle.vd_digits.proofs.encoding.write_hex.Goals as goal

pub loop-left-init : goal.loop-left-init
loop-left-init c = begins c.args.number c.args.buffer.now c.ranges.number.fits c.told-buffer

pub loop-left-preserved : goal.loop-left-preserved
loop-left-preserved c =
    goes_on c.args.number c.loop-left.left c.loop-left.at c.low_digit.result c.loop-left.buffer c.loop-left.invariant c.loop-left-test.true c.low_digit.ensures

pub returns-clause-written : goal.returns-clause-written
returns-clause-written c =
    ends c.args.number c.loop-left.left c.loop-left.at c.low_digit-2.result c.loop-left.buffer c.loop-left.invariant c.loop-left-test.false c.low_digit-2.ensures
