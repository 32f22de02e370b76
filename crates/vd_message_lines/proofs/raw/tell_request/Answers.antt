use Rattle.std.proofs.Common.{ℕ, List, [], ◌∷◌, subst}
use Rattle.vd_model.specs.declared.answer.Answer.TheVariants.{Done}
use Rattle.vd_model.specs.declared.answer.Item.TheVariants.{Text}
use Rattle.vd_message_lines.proofs.raw.tell_request.Goals as goal

pub returns : goal.returns
returns g c =
    subst (λ (bytes : List ℕ). g.T.Hears.heard c.args.told.now (Done (Text bytes ∷ [])) c.short_text.new.self) c.request_of.ensures c.short_text.ensures
