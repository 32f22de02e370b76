use Rattle.std.proofs.Common.{◌≡◌, ap, ◌∙◌, ◌==◌, length, arith}
use Rattle.std.specs.Option.{unwrap_or}
use Rattle.std.specs.List.{position_or_len}
use Rattle.vd_abi.proofs.Text.{position-within, position-or_length}
use Rattle.vd_abi.proofs.bytes.text_len.Goals as goal

pub returns-clause-value : goal.returns-clause-value
returns-clause-value c =
    c.unwrap_or.ensures ∙ ap (λ found. unwrap_or found (length c.args.chars.now)) c.first_zero.ensures ∙ position-or_length (λ byte. byte == 0) c.args.chars.now

pub returns-clause-within : goal.returns-clause-within
returns-clause-within c =
    let is : c.unwrap_or.result ≡ position_or_len (λ byte. byte == 0) c.args.chars.now = returns-clause-value c in
    let within = position-within (λ byte. byte == 0) c.args.chars.now in
    omega (arith, is, within)
