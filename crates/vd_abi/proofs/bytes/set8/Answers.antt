use Rattle.std.proofs.Common.{arith}
use Rattle.vd_abi.proofs.OneByte.{set-is_field}
use Rattle.vd_abi.proofs.bytes.set8.Goals as goal

pub returns : goal.returns
returns c = set-is_field c.args.into.now c.args.at c.args.value (omega arith) (omega arith)
