-- What contracts see of the messages of a device.
use Rattle.std.specs.Prelude.{ℕ, ◌+◌, List, [], ◌∷◌, Bool, true, false, ◌==◌, ◌||◌, if◌then◌else◌, find, length, Option, Some, None, min}
use Rattle.std.specs.List.{list_any}
use Rattle.std.specs.Option.{option_map_or}
use Rattle.vd_model.specs.declared.message.Message.{Message}
use Rattle.vd_model.specs.declared.message.TakeAnswer.{TakeAnswer}
use Rattle.vd_model.specs.declared.message.TakeAnswer.TheVariants.{Pending, FailedByTimeout, Unknown}
use Rattle.vd_model.specs.Messages.{is_due, deadline_of}
use Rattle.vd_msg.specs.declared.lists.Ended.{Ended}

pub record Lists : Type 0 where
  -- the timeout and the id of the next message, and whether a tick broke the device
  pub timeout : ℕ
  pub next : ℕ
  pub broken : Bool
  -- the messages that wait for a receive and those that the session holds, the first sent first
  pub waiting : List Message
  pub held : List Message
  -- the messages that ended and weren't taken since
  pub ended : List Ended

-- the message has this id
abbrev pub has_id : ℕ → Message → Bool
has_id id m = m.id == id

abbrev pub has_ended_id : ℕ → Ended → Bool
has_ended_id id e = e.id == id

-- the list without the first element that passes
abbrev pub without_first : {X : Type 0} → (X → Bool) → List X → List X
without_first test [] = []
without_first test (x ∷ xs) = if test x then xs else x ∷ without_first test xs

-- how many elements pass
abbrev pub count_of : {X : Type 0} → (X → Bool) → List X → ℕ
count_of test [] = 0
count_of test (x ∷ xs) = (if test x then 1 else 0) + count_of test xs

-- a message that fails by a timeout
abbrev pub timeout_end : ℕ → ℕ → Message → Ended
timeout_end deadline now m = record { id = m.id; told = FailedByTimeout m.body deadline now }

-- the message ended
abbrev pub is_final : TakeAnswer → Bool
is_final Pending = false
is_final Unknown = false
is_final _ = true

-- what is told of an id
abbrev pub told_by : Lists → ℕ → TakeAnswer
told_by h id =
    if list_any (has_id id) h.held || list_any (has_id id) h.waiting then Pending
    else option_map_or (λ e. e.told) (find (has_ended_id id) h.ended) Unknown

-- in how many places of the lists the id stands
abbrev pub places_of : Lists → ℕ → ℕ
places_of h id = count_of (has_id id) h.held + count_of (has_id id) h.waiting + count_of (has_ended_id id) h.ended

-- how many messages are untaken
abbrev pub untaken_of : Lists → ℕ
untaken_of h = length h.held + length h.waiting + length h.ended

-- the deadline of a message, where it is due
abbrev pub due_deadline : ℕ → Message → Option ℕ
due_deadline now m = if is_due now m then Some (deadline_of m) else None

-- the lesser of two numbers that may be absent
abbrev pub min_option : Option ℕ → Option ℕ → Option ℕ
min_option None n = n
min_option (Some k) None = Some k
min_option (Some k) (Some n) = Some (min k n)
