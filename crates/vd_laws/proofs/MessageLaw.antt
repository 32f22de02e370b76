-- What the lines on messages are answered, and the law of messages.
use Rattle.std.proofs.Common.{◌≡◌, ◌≢◌, ℕ, Bool, true, false, refl, ap, subst, ◌∙◌, sym, Option, None, Some, List, [], ◌∷◌, ◌++◌, nat_lt, not, ◌&&◌, is_some}
use Rattle.std.specs.Option.{option_map_or}
use Rattle.vd_num.specs.declared.errno.Errno.{Errno}
use Rattle.vd_num.specs.declared.errno.Errno.TheVariants.{Again, Badf, Inval, Nodev}
use Rattle.vd_model.specs.declared.message.Body.TheVariants as body
use Rattle.vd_model.specs.declared.message.Message.{Message}
use Rattle.vd_model.specs.declared.message.TakeAnswer.{TakeAnswer}
use Rattle.vd_model.specs.declared.message.TakeAnswer.TheVariants as end
use Rattle.vd_model.specs.declared.step.Step.TheVariants.{Device}
use Rattle.vd_model.specs.declared.step.DevStep.{DevStep}
use Rattle.vd_model.specs.declared.step.DevStep.TheVariants.{Node, Bus}
use Rattle.vd_model.specs.declared.step.NodeStep.TheVariants.{Close, Recv, Read}
use Rattle.vd_model.specs.declared.step.BusStep.TheVariants.{Take}
use Rattle.vd_model.specs.declared.answer.Tag.TheVariants.{Id}
use Rattle.vd_model.specs.declared.answer.Item.{Item}
use Rattle.vd_model.specs.declared.answer.Item.TheVariants.{Word, Number, Text}
use Rattle.vd_model.specs.declared.answer.Answer.{Answer}
use Rattle.vd_model.specs.declared.answer.Answer.TheVariants.{Done, Err, FailedReply, FailedTimeout}
use Rattle.vd_model.specs.Setting.{Setting}
use Rattle.vd_model.specs.Creation.{Creation}
use Rattle.vd_model.specs.Acts.{Act, Closed, Message_act, message_acts}
use Rattle.vd_model.specs.Acts as act
use Rattle.vd_model.specs.Live.{is_open, registration_of}
use Rattle.vd_model.specs.Messages.{MessageAct, Received, Lost, next_message, outstanding, outstanding_as, is_held, message_told}
use Rattle.vd_model.specs.Raw.{request_bytes}
use Rattle.vd_model.specs.Turn.{Turn, refusal_turn, refuse, refusal_if, done_with}
use Rattle.vd_model.specs.BusTurns.{take_turn}
use Rattle.vd_model.specs.NodeTurns.{body_items, close_turn, registration_end}
use Rattle.vd_model.specs.Deeds.{Seen, device_view, acts_of_device}
use Rattle.vd_model.specs.History.{History, deeds_of, reply, device_turn}
use Rattle.vd_laws.specs.MessageLaw.{message_acts_of, with_step, Receives, IsAccepted, IsBroken, DeviceMessages}
use Rattle.vd_laws.proofs.Heard.{Legal, heard_after, registration_end_quiet}
use Rattle.vd_laws.proofs.MessageRuns.{legal_once, legal_ascends, next_message_is, none_next, next_message_held, each_next, each_held, comes_again, Says, message_told_says}
use Rattle.vd_laws.proofs.Histories.{history_legal, step_heard}

-- ---- receives

-- a turn received the next message
record Got (done : List Act) (turn : Turn Act) (words : Message → List Item) (items : List Item) : Type 0 where
  which : Message
  next : next_message (message_acts done) ≡ Some which
  told : items ≡ words which
  made : turn.acts ≡ Message_act (Received which.id) ∷ []

module _ (done : List Act) (words : Message → List Item) where
  -- a receive behind some tests
  abbrev turn_of : Option Creation → Option Errno → Option Errno → Option Message → Turn Act
  turn_of made e f o = option_map_or (λ m. refuse e (refuse f (option_map_or (λ m. done_with (words m) (Message_act (Received m.id) ∷ [])) o (refusal_turn Again)))) made (refusal_turn Nodev)

  got : (items : List Item) (made : Option Creation) (e f : Option Errno) (o : Option Message) → next_message (message_acts done) ≡ o → (turn_of made e f o).answer ≡ Done items → Got done (turn_of made e f o) words items
  got items None e f o is h = cc
  got items (Some m) (Some a) f o is h = cc
  got items (Some m) None (Some a) o is h = cc
  got items (Some m) None None None is h = cc
  got items (Some m) None None (Some k) is h = record { which = k; next = is; told = cc; made = refl }

  waits : (made : Option Creation) (b : Bool) (o : Option Message) → (turn_of made (refusal_if b Badf) None o).answer ≡ Err Again → o ≡ None
  waits None b o h = cc
  waits (Some m) true o h = cc
  waits (Some m) false None h = refl
  waits (Some m) false (Some k) h = cc

module _ (x : Setting) (h : History) (d : List ℕ) where
  receives : (step : DevStep) (failed : Bool) (words : Message → List Item) (items : List Item) → Got (acts_of_device d (deeds_of x h)) (device_turn x (device_view x d (deeds_of x h)) step) words items
      → Receives (message_acts_of x h d) (message_acts_of x (with_step h (Device d step) failed) d) words items
  receives step failed words items g =
      let now : message_acts_of x (with_step h (Device d step) failed) d ≡ Received g.which.id ∷ message_acts_of x h d = step_heard x h d step failed ∙ ap (λ acts. message_acts (acts ++ acts_of_device d (deeds_of x h))) g.made in
      record {
        which = g.which;
        next = next_message_is (message_acts_of x h d) g.which (history_legal x h d) g.next;
        told = g.told;
        held = subst (λ acts. is_held acts g.which.id ≡ true) (sym now) (next_message_held (message_acts_of x h d) g.which g.next);
      }

  recv_receives : (failed : Bool) (items : List Item) → reply x h (Device d (Node Recv)) failed ≡ Done items
      → Receives (message_acts_of x h d) (message_acts_of x (with_step h (Device d (Node Recv)) failed) d) (λ m. Word Id ∷ Number m.id ∷ body_items m.body) items
  recv_receives failed items e =
      let s : Seen = device_view x d (deeds_of x h) in
      receives (Node Recv) failed (λ m. Word Id ∷ Number m.id ∷ body_items m.body) items
      (got s.acts (λ m. Word Id ∷ Number m.id ∷ body_items m.body) items s.made (refusal_if (not (is_open s.acts)) Badf) None (next_message (message_acts s.acts)) refl e)

  read_receives : (failed : Bool) (len : ℕ) (items : List Item) → reply x h (Device d (Node (Read len))) failed ≡ Done items
      → Receives (message_acts_of x h d) (message_acts_of x (with_step h (Device d (Node (Read len))) failed) d) (λ m. Text (request_bytes m.id m.body) ∷ []) items
  read_receives failed len items e =
      let s : Seen = device_view x d (deeds_of x h) in
      receives (Node (Read len)) failed (λ m. Text (request_bytes m.id m.body) ∷ []) items
      (got s.acts (λ m. Text (request_bytes m.id m.body) ∷ []) items s.made (refusal_if (not (is_open s.acts)) Badf) (refusal_if (nat_lt len 152) Inval) (next_message (message_acts s.acts)) refl e)

  recv_none : (failed : Bool) → reply x h (Device d (Node Recv)) failed ≡ Err Again → next_message (message_acts_of x h d) ≡ None
  recv_none failed e =
      let s : Seen = device_view x d (deeds_of x h) in
      waits s.acts (λ m. Word Id ∷ Number m.id ∷ body_items m.body) s.made (not (is_open s.acts)) (next_message (message_acts s.acts)) e

  -- ---- closes

  close_heard : (failed : Bool) → reply x h (Device d (Node Close)) failed ≡ Done [] → message_acts_of x (with_step h (Device d (Node Close)) failed) d ≡ Lost ∷ message_acts_of x h d
  close_heard failed e =
      let s : Seen = device_view x d (deeds_of x h) in
      step_heard x h d (Node Close) failed
      ∙ (ap (λ acts. message_acts (acts ++ s.acts)) (by s.made (not (is_open s.acts)) e) ∙ heard_after [] (act.Node Closed ∷ registration_end (registration_of s.acts)) s.acts Lost refl (registration_end_quiet (registration_of s.acts))) where
        by : (made : Option Creation) (b : Bool) → (option_map_or (λ m. refuse (refusal_if b Badf) (close_turn (acts_of_device d (deeds_of x h)))) made (refusal_turn Nodev)).answer ≡ Done []
            → (option_map_or (λ m. refuse (refusal_if b Badf) (close_turn (acts_of_device d (deeds_of x h)))) made (refusal_turn Nodev)).acts ≡ Message_act Lost ∷ act.Node Closed ∷ registration_end (registration_of (acts_of_device d (deeds_of x h)))
        by None b f = cc
        by (Some m) true f = cc
        by (Some m) false f = refl

  -- ---- takes

  -- a take on a device that is there
  taken_answer : (id : ℕ) (failed : Bool) (answer : Answer) → (Err Nodev ≡ answer → ⊥) → reply x h (Device d (Bus (Take id))) failed ≡ answer → (take_turn id (message_told (message_acts_of x h d) id)).answer ≡ answer
  taken_answer id failed answer other e = by (device_view x d (deeds_of x h)).made e where
    by : (made : Option Creation) → (option_map_or (λ m. take_turn id (message_told (message_acts_of x h d) id)) made (refusal_turn Nodev)).answer ≡ answer → (take_turn id (message_told (message_acts_of x h d) id)).answer ≡ answer
    by None f = absurd (other f)
    by (Some m) f = f

  reply_fails : (id : ℕ) (failed : Bool) (result : ℕ) → reply x h (Device d (Bus (Take id))) failed ≡ FailedReply result → (result ≢ 0) × IsAccepted (message_acts_of x h d) id result
  reply_fails id failed result e = by (message_told (message_acts_of x h d) id) (message_told_says (message_acts_of x h d) id) (taken_answer id failed (FailedReply result) (λ f. cc) e) where
    by : (t : TakeAnswer) → Says (message_acts_of x h d) id t → (take_turn id t).answer ≡ FailedReply result → (result ≢ 0) × IsAccepted (message_acts_of x h d) id result
    by end.Pending s g = cc
    by end.Unknown s g = cc
    by (end.Done (body.Status value) avail) s g = cc
    by (end.Done (body.VqState index) avail) s g = cc
    by (end.Done (body.Iotlb range) avail) s g = cc
    by (end.FailedByReply says r) s g = let is : r ≡ result = cc in subst (λ r. (r ≢ 0) × IsAccepted (message_acts_of x h d) id r) is s
    by (end.FailedByTimeout says deadline now) s g = cc

  time_fails : (id : ℕ) (failed : Bool) (deadline now : ℕ) → reply x h (Device d (Bus (Take id))) failed ≡ FailedTimeout deadline now → IsBroken (message_acts_of x h d) id deadline now
  time_fails id failed deadline now e = by (message_told (message_acts_of x h d) id) (message_told_says (message_acts_of x h d) id) (taken_answer id failed (FailedTimeout deadline now) (λ f. cc) e) where
    by : (t : TakeAnswer) → Says (message_acts_of x h d) id t → (take_turn id t).answer ≡ FailedTimeout deadline now → IsBroken (message_acts_of x h d) id deadline now
    by end.Pending s g = cc
    by end.Unknown s g = cc
    by (end.Done (body.Status value) avail) s g = cc
    by (end.Done (body.VqState index) avail) s g = cc
    by (end.Done (body.Iotlb range) avail) s g = cc
    by (end.FailedByReply says r) s g = cc
    by (end.FailedByTimeout says a b) s g =
        let one : a ≡ deadline = cc in let two : b ≡ now = cc in
        subst (λ n. IsBroken (message_acts_of x h d) id deadline n) two (subst (λ k. IsBroken (message_acts_of x h d) id k b) one s)

  done_answered : (id : ℕ) (failed : Bool) (items : List Item) → reply x h (Device d (Bus (Take id))) failed ≡ Done items → IsAccepted (message_acts_of x h d) id 0
  done_answered id failed items e = by (message_told (message_acts_of x h d) id) (message_told_says (message_acts_of x h d) id) (taken_answer id failed (Done items) (λ f. cc) e) where
    by : (t : TakeAnswer) → Says (message_acts_of x h d) id t → (take_turn id t).answer ≡ Done items → IsAccepted (message_acts_of x h d) id 0
    by end.Pending s g = cc
    by end.Unknown s g = cc
    by (end.Done says avail) s g = s
    by (end.FailedByReply says r) s g = cc
    by (end.FailedByTimeout says deadline now) s g = cc

-- ---- the law

-- after a loss nothing is held
none_held : (acts : List MessageAct) (id : ℕ) → is_held (Lost ∷ acts) id ≡ false
none_held acts id = by (is_some (outstanding_as acts id)) where
  by : (b : Bool) → (b && false) ≡ false
  by true = refl
  by false = refl

pub message_law : (x : Setting) (h : History) (d : List ℕ) → DeviceMessages x h d
message_law x h d = let legal : Legal (message_acts_of x h d) = history_legal x h d in record {
  once = legal_once (message_acts_of x h d) legal;
  held = λ later earlier id result avail split. each_held (message_acts_of x h d) later earlier id result avail legal split;
  ascend = legal_ascends (message_acts_of x h d) legal;
  recv = recv_receives x h d;
  none = λ failed e. none_next (message_acts_of x h d) (recv_none x h d failed e);
  read = read_receives x h d;
  each = λ later earlier id split. each_next (message_acts_of x h d) later earlier id legal split;
  requeued = λ failed e id. subst (λ acts. is_held acts id ≡ false) (sym (close_heard x h d failed e)) (none_held (message_acts_of x h d) id);
  kept = λ failed e. ap outstanding (close_heard x h d failed e);
  again = λ later since before id split. comes_again (message_acts_of x h d) later since before id legal split;
  replied = λ failed id result e. reply_fails x h d id failed result e;
  done = λ failed id items e. done_answered x h d id failed items e;
  late = λ failed id deadline now e. time_fails x h d id failed deadline now e;
}
