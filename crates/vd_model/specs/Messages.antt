-- What became of the control messages of one device, told from the acts that they see, the newest first.
use Rattle.std.specs.Prelude.{ℕ, ◌+◌, ◌-◌, List, [], ◌∷◌, ◌++◌, Bool, true, false, ◌==◌, nat_lt, nat_le, min, ◌&&◌, ◌||◌, not, if◌then◌else◌, filter, map, find, Option, Some, None, is_some}
use Rattle.std.specs.List.{list_any}
use Rattle.std.specs.Option.{option_map_or}
use Rattle.vd_model.specs.declared.message.Body.{Body}
use Rattle.vd_model.specs.declared.message.Message.{Message}
use Rattle.vd_model.specs.declared.message.TakeAnswer.{TakeAnswer}
use Rattle.vd_model.specs.declared.message.TakeAnswer.TheVariants.{Pending, Done, FailedByReply, FailedByTimeout, Unknown}

-- an act that messages see: a send, a new timeout, a final take, a receive, an accepted answer with its
-- result and available index, the loss of the session, and the clock at a new time
pub data MessageAct : Type 0 where
  Sent : Message → MessageAct
  Timed : ℕ → MessageAct
  Took : ℕ → MessageAct
  Received : ℕ → MessageAct
  Answered : ℕ → ℕ → ℕ → MessageAct
  Lost : MessageAct
  Elapsed : ℕ → MessageAct

-- what a device begins with: the timeout of its messages, and the id of the first one
pub record MessageStart : Type 0 where
  pub timeout : ℕ
  pub first : ℕ

-- ---- sends

-- how many messages were sent
abbrev pub sends : List MessageAct → ℕ
sends [] = 0
sends (Sent m ∷ acts) = sends acts + 1
sends (_ ∷ acts) = sends acts

-- the id of the next message
abbrev pub next_id : MessageStart → List MessageAct → ℕ
next_id start acts = start.first + sends acts

-- the timeout of later messages: the last one that was set
abbrev pub timeout_of : MessageStart → List MessageAct → ℕ
timeout_of start [] = start.timeout
timeout_of start (Timed seconds ∷ acts) = seconds
timeout_of start (_ ∷ acts) = timeout_of start acts

-- the message that a send makes
abbrev pub message_of : MessageStart → List MessageAct → Body → ℕ → Message
message_of start acts body now = record { id = next_id start acts; body = body; moment = now; timeout = timeout_of start acts }

-- ---- deadlines

-- when a message is due, unless its timeout is 0
abbrev pub deadline_of : Message → ℕ
deadline_of m = m.moment + m.timeout

-- a message with a timeout is due from its deadline on
abbrev pub is_due : ℕ → Message → Bool
is_due now m = nat_lt 0 m.timeout && nat_le (deadline_of m) now

-- the least of some numbers
abbrev pub least : List ℕ → Option ℕ
least [] = None
least (n ∷ ns) = Some (option_map_or (min n) (least ns) n)

-- the least deadline that is due
abbrev pub least_due : ℕ → List Message → Option ℕ
least_due now ms = least (map deadline_of (filter (is_due now) ms))

-- a tick breaks the device where one of the outstanding messages is due
abbrev pub breaks : ℕ → List Message → Bool
breaks now ms = list_any (is_due now) ms

-- ---- what waits, and what is held

-- the message is not the one with this id
abbrev pub is_other_message : ℕ → Message → Bool
is_other_message id m = not (m.id == id)

-- the messages that are outstanding, the first sent first: from its send on, until an answer is
-- accepted or a tick breaks the device
abbrev pub outstanding : List MessageAct → List Message
outstanding [] = []
outstanding (Sent m ∷ acts) = outstanding acts ++ m ∷ []
outstanding (Answered id result avail ∷ acts) = filter (is_other_message id) (outstanding acts)
outstanding (Elapsed now ∷ acts) = if breaks now (outstanding acts) then [] else outstanding acts
outstanding (_ ∷ acts) = outstanding acts

-- the outstanding message of this id
abbrev pub outstanding_as : List MessageAct → ℕ → Option Message
outstanding_as acts id = find (λ m. m.id == id) (outstanding acts)

-- a tick broke the device
abbrev pub is_broken : List MessageAct → Bool
is_broken [] = false
is_broken (Elapsed now ∷ acts) = breaks now (outstanding acts) || is_broken acts
is_broken (_ ∷ acts) = is_broken acts

-- the id was received since the session was last lost
abbrev pub is_received : List MessageAct → ℕ → Bool
is_received [] id = false
is_received (Received k ∷ acts) id = (k == id) || is_received acts id
is_received (Lost ∷ acts) id = false
is_received (_ ∷ acts) id = is_received acts id

-- the session holds the id: it is outstanding and was received
abbrev pub is_held : List MessageAct → ℕ → Bool
is_held acts id = is_some (outstanding_as acts id) && is_received acts id

-- the first outstanding message that isn't held
abbrev pub next_message : List MessageAct → Option Message
next_message acts = find (λ m. not (is_received acts m.id)) (outstanding acts)

-- ---- what a take tells

-- how an accepted answer ends a message: it is done by the result 0, and failed by every other
abbrev pub reply_answer : Message → ℕ → ℕ → TakeAnswer
reply_answer m result avail = if result == 0 then Done m.body avail else FailedByReply m.body result

-- how a tick ends a message: it fails where one was due
abbrev pub timeout_answer : Option ℕ → Option Message → ℕ → TakeAnswer → TakeAnswer
timeout_answer (Some deadline) (Some m) now before = FailedByTimeout m.body deadline now
timeout_answer _ _ now before = before

-- what a take of the id tells, by the last act that concerns it: its send, the accepted answer, the tick
-- that broke the device while it was outstanding, or an earlier final take
abbrev pub message_told : List MessageAct → ℕ → TakeAnswer
message_told [] id = Unknown
message_told (Sent m ∷ acts) id = if m.id == id then Pending else message_told acts id
message_told (Answered k result avail ∷ acts) id =
    if k == id then option_map_or (λ m. reply_answer m result avail) (outstanding_as acts id) (message_told acts id) else message_told acts id
message_told (Elapsed now ∷ acts) id = timeout_answer (least_due now (outstanding acts)) (outstanding_as acts id) now (message_told acts id)
message_told (Took k ∷ acts) id = if k == id then Unknown else message_told acts id
message_told (_ ∷ acts) id = message_told acts id

-- how many final takes there were, and how many messages are untaken
abbrev pub takes : List MessageAct → ℕ
takes [] = 0
takes (Took id ∷ acts) = takes acts + 1
takes (_ ∷ acts) = takes acts

abbrev pub untaken : List MessageAct → ℕ
untaken acts = sends acts - takes acts

-- ---- calls

-- a call on the messages of a device
pub data MessageCall : Type 0 where
  Timing : ℕ → MessageCall
  Sending : Body → ℕ → MessageCall
  Receiving : MessageCall
  Answering : ℕ → ℕ → ℕ → MessageCall
  Losing : MessageCall
  Ticking : ℕ → MessageCall
  Taking : ℕ → MessageCall

-- the greatest id plus 1: it is never given
abbrev pub id_limit : ℕ
id_limit = 4294967295

-- the act that a send makes, unless the device is broken or no id is left
abbrev pub send_acts : MessageStart → List MessageAct → Body → ℕ → List MessageAct
send_acts start acts body now =
    if is_broken acts || (next_id start acts == id_limit) then [] else Sent (message_of start acts body now) ∷ []

-- the act of a receive, if a message waits
abbrev pub recv_acts : List MessageAct → List MessageAct
recv_acts acts = option_map_or (λ m. Received m.id ∷ []) (next_message acts) []

-- the act of an answer, if the session holds the id
abbrev pub answer_acts : List MessageAct → ℕ → ℕ → ℕ → List MessageAct
answer_acts acts id result avail = if is_held acts id then Answered id result avail ∷ [] else []

-- the act of a take that tells this, if it is final
abbrev pub take_acts : TakeAnswer → ℕ → List MessageAct
take_acts Pending id = []
take_acts Unknown id = []
take_acts _ id = Took id ∷ []

-- the acts that a call makes after earlier ones
abbrev pub call_acts : MessageStart → List MessageAct → MessageCall → List MessageAct
call_acts start acts (Timing seconds) = Timed seconds ∷ []
call_acts start acts (Sending body now) = send_acts start acts body now
call_acts start acts Receiving = recv_acts acts
call_acts start acts (Answering id result avail) = answer_acts acts id result avail
call_acts start acts Losing = Lost ∷ []
call_acts start acts (Ticking now) = Elapsed now ∷ []
call_acts start acts (Taking id) = take_acts (message_told acts id) id

-- all acts after a list of calls, the newest call first
abbrev pub message_run : MessageStart → List MessageCall → List MessageAct
message_run start [] = []
message_run start (call ∷ calls) = call_acts start (message_run start calls) call ++ message_run start calls

-- how many answers to the id were accepted
abbrev pub answers_to : ℕ → List MessageAct → ℕ
answers_to id [] = 0
answers_to id (Answered k result avail ∷ acts) = (if k == id then 1 else 0) + answers_to id acts
answers_to id (_ ∷ acts) = answers_to id acts
