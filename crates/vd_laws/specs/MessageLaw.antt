-- What holds of a device's control messages after every list of steps.
use Rattle.std.specs.Prelude.{ℕ, ◌<◌, ◌≤◌, List, [], ◌∷◌, ◌++◌, Bool, false, IsTrue, ◌≡◌, ◌≢◌}
use Rattle.vd_num.specs.declared.errno.Errno.TheVariants.{Again}
use Rattle.vd_model.specs.declared.message.Message.{Message}
use Rattle.vd_model.specs.declared.step.Step.{Step}
use Rattle.vd_model.specs.declared.step.Step.TheVariants.{Device}
use Rattle.vd_model.specs.declared.step.DevStep.TheVariants.{Node, Bus}
use Rattle.vd_model.specs.declared.step.NodeStep.TheVariants.{Close, Recv, Read}
use Rattle.vd_model.specs.declared.step.BusStep.TheVariants.{Take}
use Rattle.vd_model.specs.declared.answer.Tag.TheVariants.{Id}
use Rattle.vd_model.specs.declared.answer.Item.{Item}
use Rattle.vd_model.specs.declared.answer.Item.TheVariants.{Word, Number, Text}
use Rattle.vd_model.specs.declared.answer.Answer.TheVariants.{Done, Err, FailedReply, FailedTimeout}
use Rattle.vd_model.specs.Setting.{Setting}
use Rattle.vd_model.specs.Acts.{message_acts}
use Rattle.vd_model.specs.Messages.{MessageAct, Sent, Received, Answered, Lost, Elapsed, outstanding, is_held, is_received, is_due, deadline_of, answers_to}
use Rattle.vd_model.specs.NodeTurns.{body_items}
use Rattle.vd_model.specs.Raw.{request_bytes}
use Rattle.vd_model.specs.History.{History, reply}
use Rattle.vd_laws.specs.Among.{Among}
use Rattle.vd_laws.specs.Runs.{acts_of}

-- the acts on a device's messages, since it was last made
abbrev pub message_acts_of : Setting → History → List ℕ → List MessageAct
message_acts_of x h d = message_acts (acts_of x h d)

-- a history with one more step
abbrev pub with_step : History → Step → Bool → History
with_step h step failed = record { step = step; failed = failed } ∷ h

-- the ids ascend
abbrev pub AreAscending : List Message → Type 0
AreAscending [] = Unit {0}
AreAscending (m ∷ ms) = ((k : Message) → Among k ms → m.id < k.id) × AreAscending ms

-- of the outstanding messages that aren't held, the one of least id
pub record IsNext (acts : List MessageAct) (m : Message) : Type 0 where
  pub waits : Among m (outstanding acts)
  pub unheld : is_held acts m.id ≡ false
  pub least : (k : Message) → Among k (outstanding acts) → is_held acts k.id ≡ false → m.id ≤ k.id

-- some message is the next, is told in these words, and is held afterwards
pub record Receives (before acts : List MessageAct) (words : Message → List Item) (items : List Item) : Type 0 where
  pub which : Message
  pub next : IsNext before which
  pub told : items ≡ words which
  pub held : IsTrue (is_held acts which.id)

-- an answer of this result to the id was accepted
pub record IsAccepted (acts : List MessageAct) (id result : ℕ) : Type 0 where
  pub later : List MessageAct
  pub avail : ℕ
  pub earlier : List MessageAct
  pub split : acts ≡ later ++ Answered id result avail ∷ earlier

-- a tick to `now`, after the id's send, found it outstanding, and this was the least deadline that was due then
pub record IsBroken (acts : List MessageAct) (id deadline now : ℕ) : Type 0 where
  pub which : Message
  pub same : which.id ≡ id
  pub later : List MessageAct
  pub between : List MessageAct
  pub earlier : List MessageAct
  pub split : acts ≡ later ++ Elapsed now ∷ (between ++ Sent which ∷ earlier)
  pub waits : Among which (outstanding (between ++ Sent which ∷ earlier))
  pub due : (k : Message) × Among k (outstanding (between ++ Sent which ∷ earlier)) × IsTrue (is_due now k) × (deadline_of k ≡ deadline)
  pub least : (k : Message) → Among k (outstanding (between ++ Sent which ∷ earlier)) → IsTrue (is_due now k) → deadline ≤ deadline_of k

-- the law of one device's messages
pub record DeviceMessages (x : Setting) (h : History) (d : List ℕ) : Type 0 where
  -- each id has at most one accepted answer, and the session held the id then
  pub once : (id : ℕ) → answers_to id (message_acts_of x h d) ≤ 1
  pub held : (later earlier : List MessageAct) (id result avail : ℕ) → message_acts_of x h d ≡ later ++ Answered id result avail ∷ earlier → IsTrue (is_held earlier id)
  -- what is outstanding stands in ascending order of ids
  pub ascend : AreAscending (outstanding (message_acts_of x h d))
  -- a receive tells the next message, and is refused only where every outstanding one is held
  pub recv : (failed : Bool) (items : List Item) → reply x h (Device d (Node Recv)) failed ≡ Done items
      → Receives (message_acts_of x h d) (message_acts_of x (with_step h (Device d (Node Recv)) failed) d) (λ m. Word Id ∷ Number m.id ∷ body_items m.body) items
  pub none : (failed : Bool) → reply x h (Device d (Node Recv)) failed ≡ Err Again → (k : Message) → Among k (outstanding (message_acts_of x h d)) → IsTrue (is_held (message_acts_of x h d) k.id)
  -- so does a read, in the bytes of a request
  pub read : (failed : Bool) (len : ℕ) (items : List Item) → reply x h (Device d (Node (Read len))) failed ≡ Done items
      → Receives (message_acts_of x h d) (message_acts_of x (with_step h (Device d (Node (Read len))) failed) d) (λ m. Text (request_bytes m.id m.body) ∷ []) items
  -- each receive of the run was of the next message
  pub each : (later earlier : List MessageAct) (id : ℕ) → message_acts_of x h d ≡ later ++ Received id ∷ earlier → (m : Message) × IsNext earlier m × (m.id ≡ id)
  -- after a close none is held, and the same messages are outstanding
  pub requeued : (failed : Bool) → reply x h (Device d (Node Close)) failed ≡ Done [] → (id : ℕ) → is_held (message_acts_of x (with_step h (Device d (Node Close)) failed) d) id ≡ false
  pub kept : (failed : Bool) → reply x h (Device d (Node Close)) failed ≡ Done [] → outstanding (message_acts_of x (with_step h (Device d (Node Close)) failed) d) ≡ outstanding (message_acts_of x h d)
  -- an id that is outstanding and wasn't received since the close comes before any greater one
  pub again : (later since before : List MessageAct) (id : ℕ) → message_acts_of x h d ≡ later ++ Received id ∷ (since ++ Lost ∷ before)
      → (k : Message) → Among k (outstanding (since ++ Lost ∷ before)) → is_received since k.id ≡ false → id ≤ k.id
  -- a take is done by an accepted answer of result 0, and fails by one of another result, or by a tick that broke the device
  pub done : (failed : Bool) (id : ℕ) (items : List Item) → reply x h (Device d (Bus (Take id))) failed ≡ Done items → IsAccepted (message_acts_of x h d) id 0
  pub replied : (failed : Bool) (id result : ℕ) → reply x h (Device d (Bus (Take id))) failed ≡ FailedReply result → (result ≢ 0) × IsAccepted (message_acts_of x h d) id result
  pub late : (failed : Bool) (id deadline now : ℕ) → reply x h (Device d (Bus (Take id))) failed ≡ FailedTimeout deadline now → IsBroken (message_acts_of x h d) id deadline now

-- the law of messages, for every device
abbrev pub MessageLaw : Setting → History → Type 0
MessageLaw x h = (d : List ℕ) → DeviceMessages x h d
