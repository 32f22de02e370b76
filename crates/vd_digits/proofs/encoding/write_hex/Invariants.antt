use Rattle.vd_digits.proofs.NumberDigits.{DigitsSoFar}
use Rattle.vd_digits.proofs.encoding.write_hex.Given as goal

abbrev pub invariant-loop-left : goal.invariant-loop-left
invariant-loop-left l = DigitsSoFar l.number l.left l.at l.buffer

abbrev pub decreases-loop-left : goal.decreases-loop-left
decreases-loop-left l = l.left
