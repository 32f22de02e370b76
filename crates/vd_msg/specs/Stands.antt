-- The lists of messages stand for the acts that were done.
use Rattle.std.specs.Prelude.{ℕ, ◌+◌, ◌<◌, ◌≤◌, ◌≡◌, List, ◌++◌, true, false, if◌then◌else◌, nat_lt, Result, Ok, Err}
use Rattle.std.specs.List.{list_any, list_all}
use Rattle.vd_model.specs.Messages.{MessageAct, MessageCall, MessageStart, next_id, timeout_of, outstanding, is_broken, is_received, message_told, sends, takes, call_acts, id_limit, Sending}
use Rattle.vd_model.specs.declared.message.Body.{Body}
use Rattle.vd_model.specs.declared.message.Message.{Message}
use Rattle.vd_model.specs.declared.message.Sent as received
use Rattle.vd_msg.specs.declared.messages.SendError.{SendError}
use Rattle.vd_msg.specs.declared.messages.SendError.TheVariants.{Broken, Ids, Memory}
use Rattle.vd_msg.specs.Lists.{Lists, has_id, is_final, told_by, places_of, untaken_of}

pub record Stands (start : MessageStart) (acts : List MessageAct) (h : Lists) : Type 0 where
  pub timeout : h.timeout ≡ timeout_of start acts
  pub next : h.next ≡ next_id start acts
  pub broken : h.broken ≡ is_broken acts
  -- what is held comes before what waits
  pub lists : outstanding acts ≡ h.held ++ h.waiting
  pub held : (id : ℕ) → list_any (has_id id) h.held ≡ true → is_received acts id ≡ true
  pub waiting : (id : ℕ) → list_any (has_id id) h.waiting ≡ true → is_received acts id ≡ false
  -- no id was received before it was sent, and each stands in one place at most
  pub received : (id : ℕ) → is_received acts id ≡ true → id < h.next
  pub once : (id : ℕ) → places_of h id ≤ (if nat_lt id h.next then 1 else 0)
  pub told : (id : ℕ) → message_told acts id ≡ told_by h id
  pub ends : list_all (λ e. is_final e.told) h.ended ≡ true
  pub untaken : untaken_of h + takes acts ≡ sends acts

-- the lists stand for the acts before a call and those that it makes
abbrev pub Makes : MessageStart → List MessageAct → MessageCall → Lists → Type 0
Makes start acts call h = Stands start (call_acts start acts call ++ acts) h

-- a message as it is received
abbrev pub sent_of : Message → received.Sent
sent_of m = record { id = m.id; body = m.body }

-- what a send answers: it is refused where the device is broken, then where no id is left, or for want
-- of memory alone; else the message has the next id
abbrev pub SendsExactly : MessageStart → List MessageAct → Body → ℕ → Result ℕ SendError → Lists → Type 0
SendsExactly start acts body now (Err Broken) h = is_broken acts ≡ true
SendsExactly start acts body now (Err Ids) h = (is_broken acts ≡ false) × (next_id start acts ≡ id_limit)
SendsExactly start acts body now (Err Memory) h = (is_broken acts ≡ false) × (next_id start acts < id_limit)
SendsExactly start acts body now (Ok id) h = (is_broken acts ≡ false) × (next_id start acts < id_limit) × (id ≡ next_id start acts) × Makes start acts (Sending body now) h
