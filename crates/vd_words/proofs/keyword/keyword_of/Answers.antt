use Rattle.std.proofs.Common.{◌∙◌, arith}
use Rattle.vd_words.proofs.FirstWords.{by_sum, none_of_length}
use Rattle.vd_words.proofs.keyword.keyword_of.Goals as goal
use Rattle.vd_words.proofs.keyword.keyword_of.Goals.{then-word-lt3-via-then-word-lt3, then-word-lt3-via-else-word-lt3+then-word-gt12}

pub returns : goal.returns
returns c = c.if_written_so.ensures ∙ rw c.candidate.ensures (by_sum c.args.word.now)

pub returns-then-word-lt3 : goal.returns-then-word-lt3
returns-then-word-lt3 c = none_of_length c.args.word.now (λ low high. elim c.then-word-lt3.branch [
  | then-word-lt3-via-then-word-lt3 w ↦ omega arith
  | then-word-lt3-via-else-word-lt3+then-word-gt12 w ↦ omega arith
])
