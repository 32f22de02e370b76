-- Lines of a bus that were answered one after another.
use Rattle.std.specs.Prelude.{ℕ, ◌≡◌, List, Bool, Option, Some, is_some}
use Rattle.vd_turns.specs.Turns.{RepliesFollow}
use Rattle.vd_options.specs.Programs.{asked_guest}
use Rattle.vd_vhost_model.specs.GuestTable.{VhostAct}
use Rattle.vd_vhost_model.specs.VhostLines.{vhost_reading}
use Rattle.vd_vhost_model.specs.VhostOut.{vhost_reply_to, done_after}
use Rattle.vd_vhost.specs.After.{BusParts, IsAfter}

-- the line is in the grammar of a bus
abbrev pub is_bus_line : List ℕ → Bool
is_bus_line line = is_some (vhost_reading line)

-- what was done after a line too, and the reply to it
abbrev pub after_line : ℕ → List VhostAct → List ℕ → List VhostAct
after_line size done line = done_after size done (vhost_reading line)

abbrev pub line_reply : ℕ → List VhostAct → List ℕ → List ℕ
line_reply size done line = vhost_reply_to size done (vhost_reading line)

-- after these acts the lines were answered by these replies, and the bus stands for what they did too
pub record AnsweredAfter (size : ℕ) (acts : List VhostAct) (lines replies : List (List ℕ)) (bus : BusParts) : Type 0 where
  pub after : List VhostAct
  pub follows : RepliesFollow (after_line size) (line_reply size) acts lines replies after
  pub stands : IsAfter size after bus

-- the lines were answered so since the bus was this first one, whatever that stands for
abbrev pub LinesAnswered : BusParts → List (List ℕ) → List (List ℕ) → BusParts → Type 0
LinesAnswered first lines replies now =
    (size : ℕ) (acts : List VhostAct) → IsAfter size acts first → AnsweredAfter size acts lines replies now

-- the words ask for a memory of so many bytes, and this text is left in the source
pub record IsGiven (words : List (List ℕ)) (size : ℕ) (left : Option (List ℕ)) (text : List ℕ) : Type 0 where
  pub asked : asked_guest words ≡ Some size
  pub told : left ≡ Some text
