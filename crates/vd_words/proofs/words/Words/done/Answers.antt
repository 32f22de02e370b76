use Rattle.std.proofs.Common.{refl, sym, ap, ◌∙◌}
use Rattle.vd_words.specs.Rest.{words_left}
use Rattle.vd_words.proofs.Cutting.{not_done}
use Rattle.vd_words.proofs.words.Words.done.Goals as goal

pub returns-in-Some : goal.returns-in-Some
returns-in-Some g c =
    (refl, not_done c.args.step c.self.inside.separator c.args.self.now c.in-Some.field-0.now (sym c.self.view_is ∙ ap (words_left c.self.inside.separator) c.in-Some.is))
