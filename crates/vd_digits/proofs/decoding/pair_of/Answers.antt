use Rattle.std.proofs.Common.{arith}
use Rattle.vd_digits.proofs.Tables.{pair_is}
use Rattle.vd_digits.proofs.decoding.pair_of.Goals as goal

pub returns : goal.returns
returns c = λ i. pair_is c.args.high c.args.low i _ _ c.hex_digit_of-first.ensures.digit c.hex_digit_of-second.ensures.digit (omega arith)
