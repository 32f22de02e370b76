use Rattle.std.proofs.Common.{arith}
use Rattle.vd_digits.proofs.Tables.{glyph_at}
use Rattle.vd_digits.proofs.encoding.low_digit.Goals as goal

pub returns : goal.returns
returns c = glyph_at _ (omega arith)
