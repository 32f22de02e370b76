-- What a bus stands for.
use Rattle.std.specs.Prelude.{ℕ, List, ◌++◌, ◌≡◌, ◌==◌, Bool, true, false, Option, Some, None, length, slice_index}
use Rattle.std.specs.List.{list_all}
use Rattle.std.specs.Option.{option_map_or}
use Rattle.vd_model.specs.declared.message.TakeAnswer.{TakeAnswer}
use Rattle.vd_model.specs.declared.message.TakeAnswer.TheVariants.{FailedByReply, FailedByTimeout}
use Rattle.vd_msg.specs.Lists.{Lists}
use Rattle.vd_msg.specs.Stands.{Stands}
use Rattle.vd_vhost_model.specs.GuestTable.{VhostAct, Message, messages_of, table, is_latest, guest}
use Rattle.vd_vhost_model.specs.VhostTurns.{bus_start, clock_of}
use Rattle.vd_guest.specs.Kept.{GuestParts, StandsFor}

-- what a bus is seen as: the guest's memory and table, the messages, the id of the table that was set last, and the time
pub record BusParts : Type 0 where
  pub guest : GuestParts
  pub messages : Lists
  pub latest : Option ℕ
  pub clock : ℕ

-- the id is the one of the table that was set last
abbrev pub is_id : Option ℕ → ℕ → Bool
is_id latest id = option_map_or (λ k. k == id) latest false

-- a guest's memory of so many bytes and its table stand for what was done
pub record GuestAfter (size : ℕ) (done : List VhostAct) (g : GuestParts) (latest : Option ℕ) : Type 0 where
  pub len : length g.memory ≡ size
  pub memory : (o : ℕ) → slice_index g.memory o ≡ guest done o
  pub table : StandsFor (table done) g.regions
  pub newest : (id : ℕ) → is_latest done id ≡ is_id latest id

pub record IsAfter (size : ℕ) (done : List VhostAct) (bus : BusParts) : Type 0 where
  pub guest : GuestAfter size done bus.guest bus.latest
  pub messages : Stands bus_start (messages_of done) bus.messages
  pub clock : bus.clock ≡ clock_of (messages_of done)

-- ---- the end of a message

-- the message ended and failed
abbrev pub has_failed : TakeAnswer → Bool
has_failed (FailedByReply body code) = true
has_failed (FailedByTimeout body deadline now) = true
has_failed _ = false

-- ---- messages alone

abbrev pub is_message : VhostAct → Bool
is_message (Message act) = true
is_message _ = false

abbrev pub MessagesBefore : List VhostAct → Lists → Type 0
MessagesBefore done m = Stands bus_start (messages_of done) m

-- the messages stand for these acts too, all of which are on them; none of them lets time pass
pub record MessagesAfter (done : List VhostAct) (m : Lists) (acts : List VhostAct) : Type 0 where
  pub only : list_all is_message acts ≡ true
  pub clock : clock_of (messages_of (acts ++ done)) ≡ clock_of (messages_of done)
  pub stands : Stands bus_start (messages_of (acts ++ done)) m
