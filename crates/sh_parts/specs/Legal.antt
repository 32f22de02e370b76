-- What each answer in the two journals has to be. Lists of entries have the newest first here.
use Rattle.std.specs.Prelude.{ℕ, ◌≡◌, ◌≤◌, ◌+◌, ◌*◌, List, [], ◌∷◌, ◌++◌, ◌==◌, nat_lt, if◌then◌else◌, is_some, find, reverse}
use Rattle.std.specs.Option.{option_map, option_map_or}
use Rattle.vd_num.specs.Number.{pages_of}
use Rattle.vd_num.specs.declared.errno.Errno.{Errno}
use Rattle.vd_num.specs.declared.errno.Errno.TheVariants as errno
use Rattle.vd_model.specs.declared.memory.Region.{Region}
use Rattle.vd_model.specs.declared.memory.Dir.{Dir}
use Rattle.vd_model.specs.Setting.{Setting, bounce_size}
use Rattle.vd_model.specs.Acts.{Act, Node, Driver, Registered, Deregistered, Mapped, Unmapped, Region_made, Region_freed}
use Rattle.vd_model.specs.Live.{maps, regions, live_mappings, live_regions, registration_of}
use Rattle.vd_model.specs.Place.{place_of, taken_slots}
use Rattle.vd_model.specs.DriverTurns.{want_of}
use Rattle.vd_model.specs.AreaTurns.{daemon_regions, first_region}
use Rattle.vd_model.specs.Messages.{MessageAct, MessageCall, MessageStart, message_run, is_broken, is_held, next_message, next_id, id_limit, message_told, Sending, Receiving, Answering, Losing, Ticking, Taking}
use Rattle.vd_msg.specs.Stands.{sent_of}
use Rattle.sh_parts.specs.declared.entry.JournalKind.{JournalKind}
use Rattle.sh_parts.specs.declared.entry.JournalKind.TheVariants as kind
use Rattle.sh_parts.specs.declared.entry.Entry.{Entry}
use Rattle.sh_parts.specs.declared.entry.Entry.TheVariants as entry
use Rattle.sh_parts.specs.declared.entry.DomainStep.{DomainStep}
use Rattle.sh_parts.specs.declared.entry.DomainStep.TheVariants as domain
use Rattle.sh_parts.specs.declared.entry.DomainAnswer.{DomainAnswer}
use Rattle.sh_parts.specs.declared.entry.DomainAnswer.TheVariants as says
use Rattle.sh_parts.specs.declared.entry.MessageStep.{MessageStep}
use Rattle.sh_parts.specs.declared.entry.MessageStep.TheVariants as message
use Rattle.sh_parts.specs.declared.entry.MessageAnswer.{MessageAnswer}
use Rattle.sh_parts.specs.declared.entry.MessageAnswer.TheVariants as tells

-- the numbers of a device: its bounce pages, all its pages, and the timeout of its messages in seconds
pub record Numbers : Type 0 where
  pub bounce : ℕ
  pub pages : ℕ
  pub timeout : ℕ

-- ---- the memory

-- a page is a slot, and there is no image
abbrev pub setting_of : Numbers → Setting
setting_of x = record { bounce = x.bounce; iova = x.pages; per_page = 1; sectors = 0; content = λ _. 0 }

-- what a step answers, and the acts that it is
pub record DomainTurn : Type 0 where
  pub answer : DomainAnswer
  pub acts : List Act

abbrev pub domain_refusal : Errno → DomainTurn
domain_refusal e = record { answer = says.Err e; acts = [] }

abbrev pub done_by : Act → DomainTurn
done_by act = record { answer = says.Done; acts = act ∷ [] }

-- mappings and coherent regions are numbered together
abbrev pub next_number : List Act → ℕ
next_number done = maps done + regions done

-- a mapping at this slot: it has no buffer of its own
abbrev pub mapping_at : List Act → ℕ → Dir → ℕ → DomainTurn
mapping_at done len dir slot = record {
  answer = says.Mapped (next_number done) (4096 * slot);
  acts = Driver (Mapped (record { number = next_number done; slot = slot; want = want_of 0 0 len dir })) ∷ [];
}

-- a coherent region at this slot
abbrev pub region_at : List Act → ℕ → ℕ → DomainTurn
region_at done len slot = record {
  answer = says.Mapped (next_number done) (4096 * slot);
  acts = Driver (Region_made (record { number = next_number done; slot = slot; len = len })) ∷ [];
}

abbrev pub domain_found : Region → DomainTurn
domain_found r = record { answer = says.Found r; acts = [] }

-- what a step answers after some acts, and the acts that it is
abbrev pub domain_turn : Numbers → List Act → DomainStep → DomainTurn
domain_turn x done (domain.Map len dir) =
    if len == 0 then domain_refusal errno.Inval
    else option_map_or (mapping_at done len dir) (place_of (taken_slots done) (pages_of len) 1 x.bounce) (domain_refusal errno.Nospc)
domain_turn x done (domain.Unmap number) =
    option_map_or (λ m. done_by (Driver (Unmapped m))) (find (λ m. m.number == number) (live_mappings done)) (domain_refusal errno.Noent)
domain_turn x done (domain.Coherent len) =
    if len == 0 then domain_refusal errno.Inval
    else option_map_or (region_at done len) (place_of (taken_slots done) (pages_of len) x.bounce x.pages) (domain_refusal errno.Nospc)
domain_turn x done (domain.FreeCoherent number) =
    option_map_or (λ r. done_by (Driver (Region_freed r))) (find (λ r. r.number == number) (live_regions done)) (domain_refusal errno.Noent)
domain_turn x done (domain.Lookup range) =
    if nat_lt range.last range.start then domain_refusal errno.Inval
    else option_map_or domain_found (first_region (daemon_regions (setting_of x) done) range.start range.last) (domain_refusal errno.Inval)
domain_turn x done domain.Register =
    if is_some (registration_of done) then domain_refusal errno.Exist else done_by (Node (Registered 0 (bounce_size (setting_of x))))
domain_turn x done domain.Deregister =
    if is_some (registration_of done) then done_by (Node Deregistered) else domain_refusal errno.Noent

-- the acts that some entries are
abbrev pub domain_acts : Numbers → List Entry → List Act
domain_acts x [] = []
domain_acts x (entry.Domain step answer ∷ before) = (domain_turn x (domain_acts x before) step).acts ++ domain_acts x before
domain_acts x (entry.Message step moment answer ∷ before) = domain_acts x before

-- ---- the messages

-- the first message has the id 0
abbrev pub message_start : Numbers → MessageStart
message_start x = record { timeout = x.timeout; first = 0 }

-- the call on the messages that a step is
abbrev pub call_of : MessageStep → ℕ → MessageCall
call_of (message.Send body) moment = Sending body moment
call_of message.Recv moment = Receiving
call_of (message.Answer id result avail) moment = Answering id result avail
call_of message.Lost moment = Losing
call_of message.Tick moment = Ticking moment
call_of (message.Take id) moment = Taking id

-- the calls that some entries are
abbrev pub calls_of : List Entry → List MessageCall
calls_of [] = []
calls_of (entry.Domain step answer ∷ before) = calls_of before
calls_of (entry.Message step moment answer ∷ before) = call_of step moment ∷ calls_of before

-- the acts that some entries are
abbrev pub acts_of_entries : Numbers → List Entry → List MessageAct
acts_of_entries x before = message_run (message_start x) (calls_of before)

-- what a step answers after some acts
abbrev pub message_answer : MessageStart → List MessageAct → MessageStep → MessageAnswer
message_answer start done (message.Send body) =
    if is_broken done then tells.Err errno.Io
    else if next_id start done == id_limit then tells.Err errno.Nospc
    else tells.Id (next_id start done)
message_answer start done message.Recv = tells.Got (option_map sent_of (next_message done))
message_answer start done (message.Answer id result avail) = tells.Answered (is_held done id)
message_answer start done message.Lost = tells.Done
message_answer start done message.Tick = tells.Done
message_answer start done (message.Take id) = tells.Taken (message_told done id)

-- the time: the moment of the last tick, 0 before the first
abbrev pub now_of : List Entry → ℕ
now_of [] = 0
now_of (entry.Message message.Tick moment answer ∷ before) = moment
now_of (_ ∷ before) = now_of before

-- no tick had a later moment than this one
abbrev pub NoneLater : ℕ → List Entry → Type 0
NoneLater now [] = Unit {0}
NoneLater now (entry.Message message.Tick moment answer ∷ before) = (moment ≤ now) × NoneLater now before
NoneLater now (_ ∷ before) = NoneLater now before

-- time doesn't go back at a tick, and stands still at every other step
abbrev pub IsMoment : List Entry → MessageStep → ℕ → Type 0
IsMoment before message.Tick moment = now_of before ≤ moment
IsMoment before _ moment = moment ≡ now_of before

-- ---- both journals

-- an entry of this journal has the answer that its step has after the entries before it
abbrev pub IsRight : Numbers → JournalKind → List Entry → Entry → Type 0
IsRight x kind.Domain before (entry.Domain step answer) = answer ≡ (domain_turn x (domain_acts x before) step).answer
IsRight x kind.Messages before (entry.Message step moment answer) =
    IsMoment before step moment × (answer ≡ message_answer (message_start x) (acts_of_entries x before) step)
IsRight x _ before _ = ⊥

-- each entry is right
abbrev pub AreRight : Numbers → JournalKind → List Entry → Type 0
AreRight x kind [] = Unit {0}
AreRight x kind (e ∷ before) = IsRight x kind before e × AreRight x kind before

-- a journal, which has the oldest entry first, is legal
abbrev pub IsLegal : Numbers → JournalKind → List Entry → Type 0
IsLegal x kind journal = AreRight x kind (reverse journal)
