use Rattle.std.proofs.Common.{arith}
use Rattle.vd_digits.proofs.Tables.{digit_at}
use Rattle.vd_digits.proofs.numbers.digit_of.Goals as goal

pub returns : goal.returns
returns c = digit_at c.args.byte (omega arith)
