-- What a line of the queue program is answered over a pair that stands for some lists.
use Rattle.std.specs.Prelude.{ℕ, ◌≡◌, ◌<◌, ◌≤◌, ◌⊎◌, List, length, Option, Some, None, IsSome, Result, Ok, Err}
use Rattle.vd_words.specs.declared.error.LineError.{LineError}
use Rattle.vd_words.specs.declared.error.LineError.TheVariants.{Bad, Memory}
use Rattle.vr_pair.specs.QueueLists.{QueueLists}
use Rattle.vr_pair.specs.QueueLines.{QueueTurn, queue_reading, turn_of}
use Rattle.vr_pair.specs.declared.line.QueueLine.{QueueLine}
use Rattle.vr_pair.specs.declared.line.QueueLine.TheVariants.{Add, Next, Used, Reclaim}

-- The turn's reply is printed, and the pair stands for the turn's lists. Where memory ran out, it stands for these or for
-- those before. `After` says for which lists the pair stands.
abbrev pub Answers : {E : Type 0} → QueueLists → QueueTurn → Result (Unit {0}) E → List ℕ → (QueueLists → Type 0) → Type 0
Answers q turn (Ok _) reply After = (reply ≡ turn.reply) × After turn.lists
Answers q turn (Err e) reply After = After q ⊎ After turn.lists

-- The same of a line. One that isn't in the grammar changes nothing.
abbrev pub AnswersLine : QueueLists → List ℕ → Result (Unit {0}) LineError → List ℕ → (QueueLists → Type 0) → Type 0
AnswersLine q line (Ok _) reply After = IsSome (queue_reading line) × Answers {E = LineError} q (turn_of q (queue_reading line)) (Ok tt) reply After
AnswersLine q line (Err Memory) reply After = Answers {E = LineError} q (turn_of q (queue_reading line)) (Err Memory) reply After
AnswersLine q line (Err Bad) reply After = (queue_reading line ≡ None) × After q

-- a chain that is added has 1 to 64 parts
abbrev pub IsAsked : QueueLine → Type 0
IsAsked (Add parts) = (0 < length parts) × (length parts ≤ 64)
IsAsked Next = Unit {0}
IsAsked (Used number len) = Unit {0}
IsAsked Reclaim = Unit {0}
