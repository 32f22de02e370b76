-- What each step is answered after what was done, and what it does.
use Rattle.std.specs.Prelude.{ℕ, ◌+◌, ◌-◌, ◌^◌, List, [], ◌∷◌, ◌++◌, Bool, ◌==◌, nat_lt, ◌&&◌, not, length, Option, Some, None}
use Rattle.std.specs.List.{list_all}
use Rattle.std.specs.Option.{option_map_or}
use Rattle.vd_num.specs.declared.errno.Errno.TheVariants.{Noent, Io, Again, Inval, Nospc}
use Rattle.vd_model.specs.declared.memory.Region.{Region}
use Rattle.vd_model.specs.declared.message.Body.{Body}
use Rattle.vd_model.specs.declared.message.Body.TheVariants.{Iotlb}
use Rattle.vd_model.specs.declared.message.TakeAnswer.{TakeAnswer}
use Rattle.vd_model.specs.declared.message.TakeAnswer.TheVariants as end
use Rattle.vd_model.specs.declared.answer.Tag.TheVariants.{Id, Offset, Start, Last, Perm}
use Rattle.vd_model.specs.declared.answer.Item.{Item}
use Rattle.vd_model.specs.declared.answer.Item.TheVariants.{Word, Number, Address, Text}
use Rattle.vd_model.specs.declared.answer.Answer.TheVariants.{Bus, Pending, FailedReply, FailedTimeout}
use Rattle.vd_model.specs.Messages.{MessageAct, MessageStart, Sent, Took, Received, Answered, Lost, Elapsed, next_id, message_of, next_message, is_broken, is_held, message_told, id_limit}
use Rattle.vd_model.specs.AreaTurns.{first_region}
use Rattle.vd_model.specs.NodeTurns.{body_items}
use Rattle.vd_model.specs.Puts.{each_from}
use Rattle.vd_model.specs.Turn.{Turn, refusal_turn, done_with, refuse, refusal_if}
use Rattle.vd_vhost_model.specs.declared.access.Access.TheVariants.{Read, Write}
use Rattle.vd_vhost_model.specs.declared.access.Denied.{Denied}
use Rattle.vd_vhost_model.specs.declared.access.Denied.TheVariants as denied
use Rattle.vd_vhost_model.specs.declared.step.VhostStep.{VhostStep}
use Rattle.vd_vhost_model.specs.declared.step.VhostStep.TheVariants as step
use Rattle.vd_vhost_model.specs.declared.step.VhostAnswer.{VhostAnswer}
use Rattle.vd_vhost_model.specs.declared.step.VhostAnswer.TheVariants as answer
use Rattle.vd_vhost_model.specs.GuestTable.{VhostAct, Poked, Table_set, Stored, Failure_taken, Message, messages_of, table, guest, loaded, first_denial, are_apart, is_region_of}

-- an answer, and the acts that are made, the newest first
pub record VhostTurn : Type 0 where
  pub answer : VhostAnswer
  pub acts : List VhostAct

-- a turn that breaks no permission
abbrev pub plain : Turn VhostAct → VhostTurn
plain turn = record { answer = answer.Plain turn.answer; acts = turn.acts }

abbrev pub denied_answer : Denied → VhostAnswer
denied_answer (denied.Bus at) = answer.Plain (Bus at)
denied_answer (denied.Perm at) = answer.Perm at

-- what denies an access is answered, and makes no act; else this turn
abbrev pub denied_or : Option Denied → Turn VhostAct → VhostTurn
denied_or None turn = plain turn
denied_or (Some why) turn = record { answer = denied_answer why; acts = [] }

-- ---- memory

abbrev pub guest_poke_turn : ℕ → ℕ → List ℕ → Turn VhostAct
guest_poke_turn size offset bytes =
    refuse (refusal_if (nat_lt size (offset + length bytes)) Inval) (done_with [] (Poked offset bytes ∷ []))

abbrev pub guest_peek_turn : ℕ → List VhostAct → ℕ → ℕ → Turn VhostAct
guest_peek_turn size done offset len =
    refuse (refusal_if (nat_lt size (offset + len)) Inval) (done_with (Text (each_from (guest done) offset len) ∷ []) [])

abbrev pub guest_load_turn : List VhostAct → ℕ → ℕ → VhostTurn
guest_load_turn done at len =
    denied_or (first_denial (table done) Read at len) (done_with (Text (loaded (table done) (guest done) at len) ∷ []) [])

abbrev pub guest_store_turn : List VhostAct → ℕ → List ℕ → VhostTurn
guest_store_turn done at bytes =
    denied_or (first_denial (table done) Write at (length bytes)) (done_with [] (Stored at bytes ∷ []))

-- ---- the table

-- messages have ids from 0 on, and 30 seconds
abbrev pub bus_start : MessageStart
bus_start = record { timeout = 30; first = 0 }

abbrev pub clock_of : List MessageAct → ℕ
clock_of [] = 0
clock_of (Elapsed now ∷ acts) = now
clock_of (_ ∷ acts) = clock_of acts

-- a table tells of all addresses
abbrev pub all_addresses : Body
all_addresses = Iotlb (record { start = 0; last = 2 ^ 64 - 1 })

-- the regions can be those of a table over a memory of so many bytes
abbrev pub is_table_of : ℕ → List Region → Bool
is_table_of size regions = list_all (is_region_of size) regions && are_apart regions

abbrev pub table_sent : List MessageAct → List Region → Turn VhostAct
table_sent sent regions =
    done_with (Word Id ∷ Number (next_id bus_start sent) ∷ [])
    (Message (Sent (message_of bus_start sent all_addresses (clock_of sent))) ∷ Table_set (next_id bus_start sent) regions ∷ [])

abbrev pub setmap_turn : ℕ → List VhostAct → List Region → Turn VhostAct
setmap_turn size done regions =
    refuse (refusal_if (not (is_table_of size regions)) Inval)
    (refuse (refusal_if (is_broken (messages_of done)) Io)
    (refuse (refusal_if (next_id bus_start (messages_of done) == id_limit) Nospc)
    (table_sent (messages_of done) regions)))

abbrev pub found_turn : Region → Turn VhostAct
found_turn r =
    done_with (Word Offset ∷ Address r.offset ∷ Word Start ∷ Address r.start ∷ Word Last ∷ Address r.last ∷ Word Perm ∷ Number r.perm ∷ []) []

abbrev pub guest_lookup_turn : List VhostAct → ℕ → ℕ → Turn VhostAct
guest_lookup_turn done start last =
    refuse (refusal_if (nat_lt last start) Inval)
    (option_map_or found_turn (first_region (table done) start last) (refusal_turn Inval))

-- ---- messages

abbrev pub guest_recv_turn : List MessageAct → Turn VhostAct
guest_recv_turn sent =
    option_map_or (λ m. done_with (Word Id ∷ Number m.id ∷ body_items m.body) (Message (Received m.id) ∷ [])) (next_message sent) (refusal_turn Again)

abbrev pub answer_turn : List MessageAct → ℕ → ℕ → Turn VhostAct
answer_turn sent id code =
    refuse (refusal_if (not (is_held sent id)) Noent) (done_with [] (Message (Answered id code 0) ∷ []))

-- the clock goes up to 2 to the 40th
abbrev pub tick_turn : ℕ → Turn VhostAct
tick_turn now = refuse (refusal_if (nat_lt (2 ^ 40) now) Inval) (done_with (Number now ∷ []) (Message (Elapsed now) ∷ []))

abbrev pub guest_take_turn : ℕ → TakeAnswer → Turn VhostAct
guest_take_turn id end.Pending = record { answer = Pending; acts = [] }
guest_take_turn id end.Unknown = refusal_turn Noent
guest_take_turn id (end.Done body avail) = done_with [] (Message (Took id) ∷ [])
guest_take_turn id (end.FailedByReply body code) = record { answer = FailedReply code; acts = Failure_taken id ∷ Message (Took id) ∷ [] }
guest_take_turn id (end.FailedByTimeout body deadline now) = record { answer = FailedTimeout deadline now; acts = Failure_taken id ∷ Message (Took id) ∷ [] }

-- ---- all steps

-- a step on a memory of so many bytes
abbrev pub vhost_turn : ℕ → List VhostAct → VhostStep → VhostTurn
vhost_turn size done (step.Poke offset bytes) = plain (guest_poke_turn size offset bytes)
vhost_turn size done (step.Peek offset len) = plain (guest_peek_turn size done offset len)
vhost_turn size done (step.SetMap regions) = plain (setmap_turn size done regions)
vhost_turn size done (step.Load at len) = guest_load_turn done at len
vhost_turn size done (step.Store at bytes) = guest_store_turn done at bytes
vhost_turn size done (step.Lookup range) = plain (guest_lookup_turn done range.start range.last)
vhost_turn size done step.Recv = plain (guest_recv_turn (messages_of done))
vhost_turn size done (step.Answer id code) = plain (answer_turn (messages_of done) id code)
vhost_turn size done step.Lost = plain (done_with [] (Message Lost ∷ []))
vhost_turn size done (step.Tick seconds) = plain (tick_turn (clock_of (messages_of done) + seconds))
vhost_turn size done (step.Take id) = plain (guest_take_turn id (message_told (messages_of done) id))

-- what was done by some steps, the newest first
unfoldable pub done_by : ℕ → List VhostStep → List VhostAct
done_by size [] = []
done_by size (step ∷ before) = (vhost_turn size (done_by size before) step).acts ++ done_by size before
