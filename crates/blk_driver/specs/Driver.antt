-- What the driver's side of a queue keeps.
use Rattle.std.specs.Prelude.{ℕ, zero, suc, ◌+◌, ◌-◌, ◌==◌, nat_le, if◌then◌else◌, List, [], ◌∷◌, Bool, Option, Some, None, fold, find}
use Rattle.vd_model.specs.Acts.{Request}
use Rattle.vr_driver.specs.Side.{DriverSide}
use Rattle.blk_driver.specs.declared.pending.Pending.{Pending}
use Rattle.blk_driver.specs.declared.driver.Made.{Made}

-- the side of its ring, and the requests that are placed and not taken back
pub record Driver : Type 0 where
  pub ring : DriverSide
  pub pending : List Pending

-- n numbers from this one on
abbrev pub numbers_from : ℕ → ℕ → List ℕ
numbers_from number zero = []
numbers_from number (suc n) = number ∷ numbers_from (number + 1) n

-- what is kept of a request
abbrev pub maps_in : Pending → List ℕ
maps_in p = numbers_from p.first_map (p.end_map - p.first_map)

abbrev pub request_in : Pending → Request
request_in p = record { buffer = p.buffer; buffers = p.buffers; maps = maps_in p; writable = p.writable }

abbrev pub made_in : Pending → Made
made_in p = record { buffer = p.buffer; count = p.buffers }

-- the request of a head
abbrev pub has_head : ℕ → Pending → Bool
has_head head p = p.head == head

abbrev pub pending_of : Driver → ℕ → Option Pending
pending_of d head = find (has_head head) d.pending

-- without the first that passes
abbrev pub without_first : (Pending → Bool) → List Pending → List Pending
without_first passes [] = []
without_first passes (p ∷ ps) = if passes p then ps else p ∷ without_first passes ps

abbrev pub without_head : ℕ → Driver → Driver
without_head head d = record d { pending = without_first (has_head head) d.pending }

-- the request of least head, the first where several have it
abbrev pub lesser : Option Pending → Pending → Option Pending
lesser None p = Some p
lesser (Some q) p = if nat_le q.head p.head then Some q else Some p

abbrev pub least_of : List Pending → Option Pending
least_of ps = fold lesser None ps

-- without this request, if it is one
abbrev pub without_pending : Option Pending → Driver → Driver
without_pending None d = d
without_pending (Some p) d = without_head p.head d
