use Rattle.std.proofs.Common.{sym, ap, ◌∙◌}
use Rattle.vd_words.specs.Rest.{words_left}
use Rattle.vd_words.proofs.Cutting.{cut_at_first, cut_nowhere}
use Rattle.vd_words.proofs.words.Words.next.Goals as goal

pub returns-in-Some : goal.returns-in-Some
returns-in-Some c =
    cut_at_first c.self.inside.separator c.args.self.now c.in_ok-rest.rest.now c.in-Some.i
    (sym c.self.view_is ∙ ap (words_left c.self.inside.separator) c.in_ok-rest.was)
    (sym c.position_of.ensures ∙ c.in-Some.is)

pub returns-in-None : goal.returns-in-None
returns-in-None c =
    cut_nowhere c.self.inside.separator c.args.self.now c.in_ok-rest.rest.now
    (sym c.self.view_is ∙ ap (words_left c.self.inside.separator) c.in_ok-rest.was)
    (sym c.position_of.ensures ∙ c.in-None.is)
