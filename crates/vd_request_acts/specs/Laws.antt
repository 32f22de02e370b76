-- What the acts come to by which a request's buffers are made, filled and mapped, and are taken back.
use Rattle.std.specs.Prelude.{ℕ, ◌+◌, ◌≡◌, ◌≢◌, List, [], ◌∷◌, ◌++◌, length, take, All}
use Rattle.vd_pool.specs.Memory.{PoolMemory as Pool}
use Rattle.vd_model.specs.declared.memory.Dir.TheVariants.{To}
use Rattle.vd_model.specs.Setting.{Setting}
use Rattle.vd_model.specs.Acts.{Act, Driver, Queue, QueueAct, Streaming, Buffer, Zeroed, Poked, Synced_device, Driver_put}
use Rattle.vd_model.specs.Live.{buffers, live_mappings}
use Rattle.vd_model.specs.RingTurns.{map_acts}
use Rattle.vd_memory_lines.specs.declared.memory.Memory.{Memory}
use Rattle.vd_memory_lines.specs.Stands.{Stands, IsInside}
use Rattle.vd_request_acts.specs.Alike.{IsAlike}

-- a memory that stands for some acts stands for acts that are like them
abbrev pub StandsAlike : Type 0
StandsAlike = (x : Setting) (more acts : List Act) (k : Memory) (m : Pool) → IsAlike x.per_page more acts → Stands x more k m → Stands x acts k m

-- acts that are alike stay so after the same mappings and puts, and after what is done on queues
abbrev pub StayAlike : Type 0
StayAlike = (g : ℕ) (more acts : List Act) → IsAlike g more acts
    → ((ms : List Streaming) → IsAlike g (map_acts ms ++ more) (map_acts ms ++ acts))
    × ((at : ℕ) (bytes : List ℕ) → IsAlike g (Driver (Driver_put at bytes) ∷ more) (Driver (Driver_put at bytes) ∷ acts))
    × ((act : QueueAct) → IsAlike g more (Queue act ∷ acts))

-- a buffer of a header is as good as one into which the header is written again
abbrev pub PlacedDirect : Type 0
PlacedDirect = (g : ℕ) (done : List Act) (front : List ℕ) (ms : List Streaming)
    → IsAlike g (map_acts ms ++ Driver (Poked (buffers done) 0 front) ∷ Driver (Buffer front) ∷ done) (map_acts ms ++ Driver (Buffer front) ∷ done)

-- a table that is written into its buffer, and synced, after all is mapped is as good as one that was there before
abbrev pub PlacedListed : Type 0
PlacedListed = (g : ℕ) (done : List Act) (front table : List ℕ) (ms : List Streaming) (last : Streaming)
    → last.want ≡ record { buffer = buffers done + 1; offset = 0; len = length table; dir = To } → All (λ (m : Streaming). m.want.buffer ≢ buffers done + 1) ms
    → IsAlike g
    (Driver (Synced_device last) ∷ Driver (Poked (buffers done + 1) 0 table) ∷ map_acts (ms ++ last ∷ [])
    ++ Driver (Poked (buffers done) 0 front) ∷ Driver (Zeroed (length table)) ∷ Driver (Buffer front) ∷ done)
    (map_acts (ms ++ last ∷ []) ++ Driver (Buffer table) ∷ Driver (Buffer front) ∷ done)

-- without the buffers that these acts add, the memory stands for the acts before
abbrev pub TakesBack : List Act → List Act → Type 0
TakesBack new done = (x : Setting) (k : Memory) (m : Pool) → Stands x (new ++ done) k m → All (IsInside done) (live_mappings done)
    → Stands x done (record k { buffers = take (buffers done) k.buffers }) m

-- a header's buffer, whether the header was written into it again or not
abbrev pub TakesBackOne : Type 0
TakesBackOne = (done : List Act) (front : List ℕ)
    → TakesBack (Driver (Buffer front) ∷ []) done
    × TakesBack (Driver (Poked (buffers done) 0 front) ∷ Driver (Buffer front) ∷ []) done

-- that buffer and one of zeros
abbrev pub TakesBackBoth : Type 0
TakesBackBoth = (done : List Act) (front : List ℕ) (len : ℕ)
    → TakesBack (Driver (Zeroed len) ∷ Driver (Buffer front) ∷ []) done
    × TakesBack (Driver (Poked (buffers done) 0 front) ∷ Driver (Zeroed len) ∷ Driver (Buffer front) ∷ []) done
