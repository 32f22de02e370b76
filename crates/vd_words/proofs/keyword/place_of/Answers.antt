use Rattle.std.proofs.Common.{arith, ap, get_or}
use Rattle.vd_words.specs.declared.keyword.TheConstants.{PLACES}
use Rattle.vd_words.proofs.Places.{place_below}
use Rattle.vd_words.proofs.keyword.place_of.Goals as goal

pub returns-clause-place : goal.returns-clause-place
returns-clause-place c = ap (λ s. get_or PLACES s 0) c.letter_sum.ensures.sum

pub returns-clause-small : goal.returns-clause-small
returns-clause-small c = place_below c.letter_sum.result (omega arith)
