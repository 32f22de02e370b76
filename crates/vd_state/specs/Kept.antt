-- What contracts see of a device's state.
use Rattle.std.specs.Prelude.{ℕ, ◌+◌, ◌<◌, ◌≤◌, ◌≡◌, ◌^◌, List, Bool, true, false, ◌&&◌, if◌then◌else◌, All, Option, Some, None, unwrap_or, slice_get}
use Rattle.vd_model.specs.declared.queue.QueueInfo.{QueueInfo}
use Rattle.vd_state.specs.declared.queue.Queue.{Queue}

pub record Kept : Type 0 where
  pub status : ℕ
  pub offered : ℕ
  pub features : ℕ
  pub queues : List Queue
  -- the callback of the config space's interrupt, and its count
  pub callback : Bool
  pub interrupts : ℕ

-- ---- one queue

-- a queue of which only the largest size is set
abbrev pub new_queue : ℕ → Queue
new_queue max = record {
  max = max;
  num = 0;
  desc = 0;
  driver = 0;
  device = 0;
  avail = 0;
  ready = false;
  kicks = None;
  remembered = false;
  callback = false;
  interrupts = 0;
  generation = 0;
}

-- a reset keeps the largest size, and begins a generation
abbrev pub queue_after_reset : Queue → Queue
queue_after_reset q = record (new_queue q.max) { generation = q.generation + 1 }

-- a kick counts in the kick file, or is remembered without one
abbrev pub queue_with_kick : Option ℕ → Queue → Queue
queue_with_kick None q = record q { remembered = true }
queue_with_kick (Some count) q = record q { kicks = Some (count + 1) }

-- a kick of a queue that isn't ready is nothing
abbrev pub queue_after_kick : Queue → Queue
queue_after_kick q = if q.ready then queue_with_kick q.kicks q else q

-- a new kick file counts the remembered kick of a ready queue, which is forgotten
abbrev pub with_kick_file : Bool → Queue → Queue
with_kick_file false q = record q { kicks = None }
with_kick_file true q = if q.ready then record q { kicks = Some (if q.remembered then 1 else 0); remembered = false } else record q { kicks = Some 0 }

-- an interrupt counts where the queue is ready and has a callback
abbrev pub queue_after_interrupt : Queue → Queue
queue_after_interrupt q = if q.ready && q.callback then record q { interrupts = q.interrupts + 1 } else q

-- what a question for the queue tells
abbrev pub told_of : Queue → QueueInfo
told_of q = record { max = q.max; num = q.num; desc = q.desc; driver = q.driver; device = q.device; avail = q.avail; ready = q.ready }

-- ---- counts

-- no count is above this number
pub record CountsWithin (most : ℕ) (s : Kept) : Type 0 where
  pub kicks : All (λ q. unwrap_or q.kicks 0 ≤ most) s.queues
  pub queues : All (λ q. q.interrupts ≤ most) s.queues
  pub generations : All (λ q. q.generation ≤ most) s.queues
  pub config : s.interrupts ≤ most

-- the queue's kicks, and the interrupts of a queue or of the config space, can be counted on
abbrev pub KicksCanRise : Kept → ℕ → Type 0
KicksCanRise s index = (q : Queue) → slice_get s.queues index ≡ Some q → unwrap_or q.kicks 0 < 2 ^ 62

abbrev pub InterruptsCanRise : Kept → Option ℕ → Type 0
InterruptsCanRise s None = s.interrupts < 2 ^ 62
InterruptsCanRise s (Some index) = (q : Queue) → slice_get s.queues index ≡ Some q → q.interrupts < 2 ^ 62

-- the queue's generation, or that of each queue, can be counted on
abbrev pub GenerationCanRise : Kept → ℕ → Type 0
GenerationCanRise s index = (q : Queue) → slice_get s.queues index ≡ Some q → q.generation < 2 ^ 62

abbrev pub GenerationsCanRise : List Queue → Type 0
GenerationsCanRise queues = All (λ q. q.generation < 2 ^ 62) queues
