use Rattle.std.proofs.Common.{◌≡◌, rules, arith, sym, ap, ◌∙◌, Some}
use Rattle.vd_abi.specs.Structs.{request}
use Rattle.vd_abi.proofs.Layouts.{shows-laid_out, length-laid_out}
use Rattle.vd_abi.proofs.Same.{same_request, request-in_order}
use Rattle.vd_abi.proofs.message.Request.read.Goals as goal

pub returns-then-from-ne-LEN-clause-again : goal.returns-then-from-ne-LEN-clause-again
returns-then-from-ne-LEN-clause-again c = λ e is_one fits is.
    absurd (c.if-from-ne-LEN.true (length-laid_out _ 152 (request e) (request-in_order e is_one) fits is))

pub returns-in-0-clause-again : goal.returns-in-0-clause-again
returns-in-0-clause-again c = λ e is_one fits is.
    ap Some (same_request c.args.from.now _ e (search rules) is_one (search rules) (shows-laid_out _ 152 (request e) (request-in_order e is_one) fits is))

pub returns-in-1-clause-again : goal.returns-in-1-clause-again
returns-in-1-clause-again c = λ e is_one fits is.
    ap Some (same_request c.args.from.now _ e (search rules) is_one (search rules) (shows-laid_out _ 152 (request e) (request-in_order e is_one) fits is))

pub returns-in-2-clause-again : goal.returns-in-2-clause-again
returns-in-2-clause-again c = λ e is_one fits is.
    ap Some (same_request c.args.from.now _ e (search rules) is_one (search rules) (shows-laid_out _ 152 (request e) (request-in_order e is_one) fits is))

pub returns-in_default-clause-again : goal.returns-in_default-clause-again
returns-in_default-clause-again c = λ e is_one fits is.
    let shown = shows-laid_out _ 152 (request e) (request-in_order e is_one) fits is in
    let same : e.kind ≡ c.get32.result = shown.0 ∙ sym c.get32.ensures in absurd (omega (arith, same, is_one.kind))
