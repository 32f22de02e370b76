-- each option adds its rule
use Rattle.std.proofs.Common.{◌≡◌, rules, ap₂, ◌∙◌}
use Rattle.std.proofs.lemmas.Result.{IfOk-weaker}
use Rattle.clap.specs.Words.{app_of, with_rule}
use Rattle.sh_words.specs.Words.{bare_command}
use Rattle.sh_words.proofs.words.command.Goals as goal

pub returns : goal.returns
returns c =
    let bare_is : app_of c.no_binary_name-bare.result ≡ bare_command = search rules in
    let one_is = c.in_ok-arg.ensures.shape c.start_option-start.ensures.local ∙ ap₂ with_rule bare_is c.start_option-start.ensures.rule in
    let two_is = c.in_ok-arg-2.ensures.shape c.drivers_option-drivers.ensures.local ∙ ap₂ with_rule one_is c.drivers_option-drivers.ensures.rule in
    IfOk-weaker c.arg-3.result _ _ (λ r h. h.shape c.requests_option-requests.ensures.local ∙ ap₂ with_rule two_is c.requests_option-requests.ensures.rule) c.arg-3.ensures
