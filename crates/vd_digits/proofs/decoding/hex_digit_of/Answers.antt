use Rattle.std.proofs.Common.{arith}
use Rattle.vd_digits.proofs.Tables.{hex_digit_at, at_most_99}
use Rattle.vd_digits.proofs.decoding.hex_digit_of.Goals as goal

pub returns-clause-digit : goal.returns-clause-digit
returns-clause-digit c = hex_digit_at c.args.byte (omega arith)

pub returns-clause-small : goal.returns-clause-small
returns-clause-small c = at_most_99 _ _ (hex_digit_at c.args.byte (omega arith))
