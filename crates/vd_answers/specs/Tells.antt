-- What a call that answers a line promises.
use Rattle.std.specs.Prelude.{List, [], Result, Ok, Err, OnOk, MatchResult}
use Rattle.vd_num.specs.declared.errno.Errno.{Errno}
use Rattle.vd_model.specs.declared.answer.Answer.{Answer}
use Rattle.vd_model.specs.declared.answer.Answer.TheVariants as answer
use Rattle.vd_model.specs.Acts.{Act}
use Rattle.vd_model.specs.Turn.{Turn}

-- the turn's answer was heard, and what was changed stands for the turn's acts: `After acts` says that it stands for
-- these, done after those before the line
pub record Tells (heard : Answer → Type 0) (turn : Turn Act) (After : List Act → Type 0) : Type 0 where
  pub says : heard turn.answer
  pub stands : After turn.acts

-- the same of a call that may find no memory, and then stands for what it stood for
pub record MayTell {E : Type 0} (heard : Answer → Type 0) (turn : Turn Act) (After : List Act → Type 0) (r : Result (Unit {0}) E) : Type 0 where
  pub says : OnOk r (heard turn.answer)
  pub stands : MatchResult r (λ _. After turn.acts) (λ _. After [])

-- `ok`, or the refusal
abbrev pub answer_of : Result (Unit {0}) Errno → Answer
answer_of (Ok _) = answer.Done []
answer_of (Err errno) = answer.Err errno
