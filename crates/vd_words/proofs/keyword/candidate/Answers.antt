use Rattle.std.proofs.Common.{arith, ap, get_or, ◌∙◌}
use Rattle.std.proofs.lemmas.List.{get_or_default}
use Rattle.vd_model.specs.declared.word.Keyword.TheVariants.{Driver}
use Rattle.vd_model.specs.declared.word.DriverWord.TheVariants.{Map}
use Rattle.vd_words.specs.declared.keyword.TheConstants.{FIRST_WORDS}
use Rattle.vd_words.proofs.keyword.candidate.Goals as goal

pub returns : goal.returns
returns c = get_or_default FIRST_WORDS c.place_of.result _ (Driver Map) (omega arith) ∙ ap (λ s. get_or FIRST_WORDS s (Driver Map)) c.place_of.ensures.place
