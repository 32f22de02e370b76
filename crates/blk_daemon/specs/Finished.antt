-- What a finish tests, and what it leaves in a memory.
use Rattle.std.specs.Prelude.{ℕ, ◌≡◌, List, [], ◌∷◌, ◌++◌, take, drop, Bool, true, false, if◌then◌else◌, Option, Some, None, Result, Ok, Err}
use Rattle.std.specs.Option.{option_map}
use Rattle.vd_model.specs.Memory.{Memory, read, written}
use Rattle.vd_model.specs.Rings.{next16, available_flags_at, used_event_at, used_index_at, used_element_at}
use Rattle.vd_model.specs.declared.parts.Part.{Part}
use Rattle.vd_model.specs.declared.queue.RingPlace.{RingPlace}
use Rattle.vd_model.specs.Queues.{Execution}
use Rattle.vd_model.specs.DaemonTurns.{Hand}
use Rattle.vr_device.specs.Side.{Side}
use Rattle.vr_device.specs.Device.{with_used, interrupt}
use Rattle.blk_daemon.specs.declared.finish.Finished.{Finished}
use Rattle.blk_daemon.specs.declared.error.FinishError.{FinishError}
use Rattle.blk_daemon.specs.declared.error.FinishError.TheVariants.{NoRequest, Bus}
use Rattle.blk_daemon.specs.Held.{Held, InHand}

-- WHAT CAN'T BE ACCESSED

-- the address at which a read fails, and the first of two such addresses
abbrev pub missing_at : Result (List ℕ) ℕ → Option ℕ
missing_at (Ok bytes) = None
missing_at (Err at) = Some at

abbrev pub either_of : Option ℕ → Option ℕ → Option ℕ
either_of (Some at) rest = Some at
either_of None rest = rest

-- the first address of the parts that the device writes
abbrev pub first_unwritable : Memory → List Part → Option ℕ
first_unwritable m [] = None
first_unwritable m (part ∷ parts) = if part.writable then either_of (missing_at (read m part.at part.len)) (first_unwritable m parts) else first_unwritable m parts

-- the field that decides whether the driver is interrupted
abbrev pub deciding_field_at : Bool → RingPlace → ℕ
deciding_field_at true place = used_event_at place
deciding_field_at false place = available_flags_at place

-- and then of the used element, the used index and that field
abbrev pub first_missing : Memory → Side → Bool → List Part → Option ℕ
first_missing m side event_idx parts =
    either_of (first_unwritable m parts)
    (either_of (missing_at (read m (used_element_at side.place side.used) 8))
    (either_of (missing_at (read m (used_index_at side.place) 2))
    (missing_at (read m (deciding_field_at event_idx side.place) 2))))

-- WHAT IS STORED

-- bytes over the parts that the device writes, one after another
abbrev pub spread_over : Memory → List Part → List ℕ → Memory
spread_over m [] bytes = m
spread_over m (part ∷ parts) bytes =
    if part.writable then spread_over (written m part.at (take part.len bytes)) parts (drop part.len bytes) else spread_over m parts bytes

-- the answer's bytes and the status
abbrev pub answer_bytes : Execution → List ℕ
answer_bytes end = end.bytes ++ end.status ∷ []

-- they, then the used element, and then the used index
abbrev pub finished_memory : Memory → Side → Hand → Execution → Memory
finished_memory m side h end = with_used (spread_over m h.parts (answer_bytes end)) side h.head h.writable

-- the side with the used index moved by one
abbrev pub used_next : Side → Side
used_next side = record side { used = next16 side.used }

-- A FINISH

-- it is done, and the interrupt is decided by what stands after it; or an address can't be accessed, and nothing was stored
pub record IsDone (m : Memory) (side : Side) (event_idx : Bool) (h : Hand) (end : Execution) (f : Finished) (new : Option Memory) : Type 0 where
  pub tested : first_missing m side event_idx h.parts ≡ None
  pub stored : new ≡ Some (finished_memory m side h end)
  pub irq : interrupt (finished_memory m side h end) (used_next side) event_idx ≡ Ok f.irq

abbrev pub Finishes : Memory → Side → Bool → Hand → Execution → Result Finished FinishError → Option Memory → Type 0
Finishes m side event_idx h end (Ok f) new = IsDone m side event_idx h end f new
Finishes m side event_idx h end (Err (Bus at)) new = (first_missing m side event_idx h.parts ≡ Some at) × (new ≡ Some m)
Finishes m side event_idx h end (Err NoRequest) new = ⊥

-- the request in hand, if it was executed
abbrev pub executed_in : Option InHand → Option Execution
executed_in None = None
executed_in (Some r) = r.outcome

-- the used index moved on by one, and nothing in hand
abbrev pub finished_held : Held → Held
finished_held held = record { name = held.name; side = option_map used_next held.side; request = None }

-- a fact of the request in hand
abbrev pub OnRequest : Option InHand → (Hand → Type 0) → Type 0
OnRequest None P = Unit {0}
OnRequest (Some r) P = P r.hand
