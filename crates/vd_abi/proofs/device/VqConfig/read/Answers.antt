use Rattle.std.proofs.Common.{rules, ap, Some}
use Rattle.vd_abi.specs.Structs.{vq_config}
use Rattle.vd_abi.proofs.Layouts.{shows-laid_out, length-laid_out, not_zero_behind}
use Rattle.vd_abi.proofs.Same.{same_vq_config}
use Rattle.vd_abi.proofs.device.VqConfig.read.Goals as goal
use Rattle.vd_abi.proofs.device.VqConfig.read.Goals.{then-from-ne-LEN-via-then-from-ne-LEN, then-from-ne-LEN-via-else-from-ne-LEN+then-not-are_zero}

pub returns-then-from-ne-LEN-clause-again : goal.returns-then-from-ne-LEN-clause-again
returns-then-from-ne-LEN-clause-again c = λ e fits is.
    let shown = shows-laid_out _ 32 (vq_config e) (search rules) fits is in
    elim c.then-from-ne-LEN.branch [
      | then-from-ne-LEN-via-then-from-ne-LEN w ↦
          absurd (w.if-from-ne-LEN.true (length-laid_out _ 32 (vq_config e) (search rules) fits is))
      | then-from-ne-LEN-via-else-from-ne-LEN+then-not-are_zero w ↦
          absurd (not_zero_behind c.args.from.now _ 6 26 w.if-not-are_zero.true w.are_zero.ensures w.if-from-ne-LEN.false shown.1.1.0)
    ]

pub returns-clause-again : goal.returns-clause-again
returns-clause-again c = λ e fits is.
    ap Some (same_vq_config c.args.from.now _ e (search rules) (shows-laid_out _ 32 (vq_config e) (search rules) fits is))
