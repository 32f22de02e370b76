use Rattle.std.proofs.Common.{◌≡◌, ◌+◌, length, rules, arith, sym, ap, ◌∙◌, Some}
use Rattle.vd_abi.specs.Structs.{config_data}
use Rattle.vd_abi.proofs.Layouts.{shows-laid_out, length-laid_out}
use Rattle.vd_abi.proofs.Same.{same_config_data}
use Rattle.vd_abi.proofs.device.ConfigData.read.Goals as goal

pub returns-then-from-lt-LEN-clause-again : goal.returns-then-from-lt-LEN-clause-again
returns-then-from-lt-LEN-clause-again c = λ e fits is.
    let len = length-laid_out _ (8 + length e.bytes) (config_data e) (search rules) fits is in
    absurd (omega (arith, len, c.if-from-lt-LEN.true))

pub returns-then-from-length-clause-again : goal.returns-then-from-length-clause-again
returns-then-from-length-clause-again c = λ e fits is.
    let len = length-laid_out _ (8 + length e.bytes) (config_data e) (search rules) fits is in
    let shown = shows-laid_out _ (8 + length e.bytes) (config_data e) (search rules) fits is in
    let same : length e.bytes ≡ c.get32-length.result = shown.1.0 ∙ sym c.get32-length.ensures in
    absurd (c.if-from-length.true (len ∙ ap (λ n. 8 + n) same))

pub returns-clause-again : goal.returns-clause-again
returns-clause-again c = λ e fits is.
    ap Some (same_config_data c.args.from.now _ e (search rules) (shows-laid_out _ (8 + length e.bytes) (config_data e) (search rules) fits is))
