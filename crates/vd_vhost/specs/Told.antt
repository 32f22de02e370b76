-- What a call that answers a step promises.
use Rattle.std.specs.Prelude.{ℕ, List, [], ◌≡◌, Option, Some, None, Result, Ok, Err}
use Rattle.vd_model.specs.declared.answer.Answer.{Answer}
use Rattle.vd_model.specs.Turn.{Turn}
use Rattle.vd_vhost_model.specs.declared.step.VhostAnswer.{VhostAnswer}
use Rattle.vd_vhost_model.specs.declared.step.VhostAnswer.TheVariants.{Plain, Perm}
use Rattle.vd_vhost_model.specs.GuestTable.{VhostAct}
use Rattle.vd_vhost_model.specs.VhostTurns.{VhostTurn}

-- the turn's answer was heard, and what was changed stands for the turn's acts too
pub record Tells (heard : Answer → Type 0) (turn : Turn VhostAct) (After : List VhostAct → Type 0) : Type 0 where
  pub says : heard turn.answer
  pub stands : After turn.acts

-- the same of a call that may find no memory, and then stands for what it stood for
abbrev pub MayTell : {E : Type 0} → (Answer → Type 0) → Turn VhostAct → (List VhostAct → Type 0) → Result (Unit {0}) E → Type 0
MayTell heard turn After (Ok _) = Tells heard turn After
MayTell heard turn After (Err _) = After []

-- an answer was heard, or, where a permission is missing, nothing: the address is handed out
abbrev pub Says : (Answer → Type 0) → Type 0 → VhostAnswer → Option ℕ → Type 0
Says heard quiet (Plain answer) told = (told ≡ None) × heard answer
Says heard quiet (Perm at) told = (told ≡ Some at) × quiet

-- the turn's answer was told so, and what was changed stands for the turn's acts too
pub record TellsOrDenies (heard : Answer → Type 0) (quiet : Type 0) (turn : VhostTurn) (After : List VhostAct → Type 0) (told : Option ℕ) : Type 0 where
  pub says : Says heard quiet turn.answer told
  pub stands : After turn.acts

-- the same of a call that may find no memory, and then stands for what it stood for
abbrev pub MayTellOrDeny : {E : Type 0} → (Answer → Type 0) → Type 0 → VhostTurn → (List VhostAct → Type 0) → Result (Option ℕ) E → Type 0
MayTellOrDeny heard quiet turn After (Ok told) = TellsOrDenies heard quiet turn After told
MayTellOrDeny heard quiet turn After (Err _) = After []
