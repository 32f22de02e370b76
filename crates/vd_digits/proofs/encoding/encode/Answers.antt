use Rattle.std.proofs.Common.{ℕ, arith, slice_index}
use Rattle.hex.specs.Hex.{lower_digits}
use Rattle.hex.proofs.Pairs.{encode_step, encode_done}
use Rattle.vd_digits.proofs.Tables.{high_at, low_at}
use Rattle.vd_digits.proofs.encoding.encode.Goals as goal

pub bytes-preserved : goal.bytes-preserved
bytes-preserved c =
    let byte : ℕ = slice_index c.args.bytes.now c.bytes.i in
    encode_step lower_digits c.args.bytes.now c.bytes.text c.bytes.i _ _ (omega arith) (omega arith) (high_at byte (omega arith)) (low_at byte (omega arith)) c.bytes.invariant

pub returns : goal.returns
returns c = encode_done lower_digits c.args.bytes.now c.bytes.text c.bytes.i (omega arith) (omega arith) c.bytes.invariant
