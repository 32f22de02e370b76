use Rattle.std.proofs.Common.{rules, ap, Some}
use Rattle.vd_abi.specs.Structs.{iotlb_entry}
use Rattle.vd_abi.proofs.Layouts.{shows-laid_out, length-laid_out}
use Rattle.vd_abi.proofs.Same.{same_iotlb_entry}
use Rattle.vd_abi.proofs.iova.IotlbEntry.read.Goals as goal

pub returns-then-from-ne-LEN-clause-again : goal.returns-then-from-ne-LEN-clause-again
returns-then-from-ne-LEN-clause-again c = λ e fits is.
    absurd (c.if-from-ne-LEN.true (length-laid_out _ 32 (iotlb_entry e) (search rules) fits is))

pub returns-clause-again : goal.returns-clause-again
returns-clause-again c = λ e fits is.
    ap Some (same_iotlb_entry c.args.from.now _ e (search rules) (shows-laid_out _ 32 (iotlb_entry e) (search rules) fits is))
