use Rattle.std.proofs.Common.{rules, ap, Some}
use Rattle.vd_abi.specs.Structs.{api_version}
use Rattle.vd_abi.proofs.Layouts.{shows-laid_out, length-laid_out}
use Rattle.vd_abi.proofs.Same.{same_api_version}
use Rattle.vd_abi.proofs.control.ApiVersion.read.Goals as goal

pub returns-then-from-ne-LEN-clause-again : goal.returns-then-from-ne-LEN-clause-again
returns-then-from-ne-LEN-clause-again c = λ e fits is.
    absurd (c.if-from-ne-LEN.true (length-laid_out _ 8 (api_version e) (search rules) fits is))

pub returns-clause-again : goal.returns-clause-again
returns-clause-again c = λ e fits is.
    ap Some (same_api_version c.args.from.now _ e (search rules) (shows-laid_out _ 8 (api_version e) (search rules) fits is))
