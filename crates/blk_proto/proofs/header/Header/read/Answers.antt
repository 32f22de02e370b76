use Rattle.std.proofs.Common.{rules, ap, Some}
use Rattle.blk_proto.proofs.HeaderBytes.{at_header, length-header, same_header}
use Rattle.blk_proto.proofs.header.Header.read.Goals as goal

pub returns-then-from-ne-LEN-clause-again : goal.returns-then-from-ne-LEN-clause-again
returns-then-from-ne-LEN-clause-again c = λ h fits is.
    absurd (c.if-from-ne-LEN.true (length-header c.args.from.now h is))

pub returns-clause-again : goal.returns-clause-again
returns-clause-again c = λ h fits is.
    ap Some (same_header c.args.from.now _ h (record { kind = c.get32.ensures; reserved = c.get32-2.ensures; sector = c.get64.ensures }) (at_header c.args.from.now h fits is))
