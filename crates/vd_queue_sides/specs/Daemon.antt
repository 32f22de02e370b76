-- The block daemon's side of a queue stands for the acts: its position, and the request in hand.
use Rattle.std.specs.Prelude.{ℕ, ◌≡◌, ◌==◌, List, Bool, false, Option, Some, None, Ok}
use Rattle.std.specs.Option.{option_map}
use Rattle.vd_model.specs.Setting.{Setting}
use Rattle.vd_model.specs.Acts.{Act, Queue, Fetched, Executed, Finished}
use Rattle.vd_model.specs.Queues as model
use Rattle.vd_model.specs.Queues.{Execution, ends_position}
use Rattle.vd_model.specs.Rings.{number16, used_index_at}
use Rattle.vd_model.specs.DaemonTurns.{Hand, hand, daemon_memory, queue_place, index_after}
use Rattle.vr_device.specs.Side.{Side}

-- all that the acts say of the block daemon on a queue
pub record Steps : Type 0 where
  pub first : Option (List Act)
  pub fetches : ℕ
  pub finishes : ℕ
  pub fetched : Option (List Act)
  pub executed : Option Execution

abbrev pub steps_of : List Act → ℕ → Steps
steps_of acts q = record {
  first = model.before_first acts q;
  fetches = model.fetches acts q;
  finishes = model.finishes acts q;
  fetched = model.in_hand acts q;
  executed = model.execution_of acts q;
}

-- an act of the block daemon on this queue, or one that ends its position there
abbrev pub is_daemon_act : ℕ → Act → Bool
is_daemon_act q (Queue (Fetched k)) = k == q
is_daemon_act q (Queue (Executed k status bytes)) = k == q
is_daemon_act q (Queue (Finished k)) = k == q
is_daemon_act q (Queue act) = false
is_daemon_act q act = ends_position q act

-- nothing was fetched since the position ended
abbrev pub nothing : Steps
nothing = record { first = None; fetches = 0; finishes = 0; fetched = None; executed = None }

-- the kept position: it goes on from the used index that the first fetch loaded
pub record IsAt (x : Setting) (acts : List Act) (q : ℕ) (side : Side) : Type 0 where
  pub earlier : List Act
  pub from : ℕ
  pub first : model.before_first acts q ≡ Some earlier
  pub loaded : number16 (daemon_memory x earlier) (used_index_at (queue_place earlier q)) ≡ Ok from
  pub position : side.position ≡ index_after (model.fetches acts q) from
  pub used : side.used ≡ index_after (model.finishes acts q) from
  pub place : side.place ≡ queue_place acts q

abbrev pub PositionStands : Setting → List Act → ℕ → Option Side → Type 0
PositionStands x acts q None = (model.before_first acts q ≡ None) × (model.fetches acts q ≡ 0) × (model.finishes acts q ≡ 0)
PositionStands x acts q (Some side) = IsAt x acts q side

-- the request in hand is kept as it was read at its fetch; how it ended, once it was executed
pub record HandStands (x : Setting) (acts : List Act) (q : ℕ) (kept : Option Hand) (ended : Option Execution) : Type 0 where
  pub request : kept ≡ option_map (λ earlier. hand x earlier q) (model.in_hand acts q)
  pub outcome : ended ≡ model.execution_of acts q

pub record DaemonStands (x : Setting) (acts : List Act) (q : ℕ) (position : Option Side) (kept : Option Hand) (ended : Option Execution) : Type 0 where
  pub at : PositionStands x acts q position
  pub held : HandStands x acts q kept ended
