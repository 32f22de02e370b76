use Rattle.std.proofs.Common.{ap, ◌*◌, arith}
use Rattle.std.specs.Result.{result_ok}
use Rattle.hex.proofs.Pairs.{decode_step, decode_err, decode_done}
use Rattle.vd_digits.proofs.Tables.{ok_is, err_is}
use Rattle.vd_digits.proofs.decoding.decode_pairs.Goals as goal

pub returns-in-None : goal.returns-in-None
returns-in-None c =
    let bad = err_is _ (c.in-None.ensures (2 * c.bytes.i)) in
    ap result_ok (decode_err c.args.text.now c.bytes.out c.bytes.i bad.0 (omega arith) bad.1 c.bytes.invariant)

pub bytes-preserved : goal.bytes-preserved
bytes-preserved c =
    decode_step c.args.text.now c.bytes.out c.bytes.i c.in-Some.byte (omega arith) (omega arith) (ok_is _ _ (c.in-Some.ensures (2 * c.bytes.i))) c.bytes.invariant

pub returns : goal.returns
returns c = decode_done c.args.text.now c.bytes.out c.bytes.i (omega arith) (omega arith) c.bytes.invariant
