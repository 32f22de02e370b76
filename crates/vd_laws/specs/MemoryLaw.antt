-- What changes a driver's memory, and coherent memory.
use Rattle.std.specs.Prelude.{ℕ, ◌≤◌, List, ◌∷◌, length, Bool, true, false, IsTrue, ◌==◌, ◌&&◌, ◌≡◌}
use Rattle.vd_num.specs.Number.{is_within}
use Rattle.vd_model.specs.declared.step.Step.{Step}
use Rattle.vd_model.specs.declared.step.Step.TheVariants.{Device, Queue}
use Rattle.vd_model.specs.declared.step.DevStep.TheVariants as line
use Rattle.vd_model.specs.declared.step.QueueStep.TheVariants as queue
use Rattle.vd_model.specs.Setting.{Setting, bounce_size}
use Rattle.vd_model.specs.Acts.{Act, Streaming, Node, Driver, Daemon_put, Buffer, Zeroed, Poked, Unmapped, Synced_cpu, Region_made, Driver_put}
use Rattle.vd_model.specs.Live.{buffers, live_mappings}
use Rattle.vd_model.specs.Puts.{is_from_device, ram, shown_put}
use Rattle.vd_model.specs.Direct.{brings_back, address_for}
use Rattle.vd_model.specs.History.{History}
use Rattle.vd_laws.specs.Among.{Among}
use Rattle.vd_laws.specs.Runs.{acts_of, IsMoment, IsWhole}

-- the line is a daemon's: of the node, of the memory that it sees, or of the block daemon
abbrev pub is_daemons : Step → Bool
is_daemons (Device name (line.Node step)) = true
is_daemons (Device name (line.Area step)) = true
is_daemons (Queue name (queue.Walk q head)) = true
is_daemons (Queue name (queue.Fetch q)) = true
is_daemons (Queue name (queue.Execute q)) = true
is_daemons (Queue name (queue.Finish q)) = true
is_daemons _ = false

-- the act is the making or a poke of byte i of buffer k, or brings it back from a mapping
abbrev pub may_change : List Act → Act → ℕ → ℕ → Bool
may_change acts (Driver (Buffer bytes)) k i = k == buffers acts
may_change acts (Driver (Zeroed len)) k i = k == buffers acts
may_change acts (Driver (Poked buffer at bytes)) k i = (k == buffer) && is_within at (length bytes) i
may_change acts (Driver (Unmapped m)) k i = brings_back m k i
may_change acts (Driver (Synced_cpu m)) k i = brings_back m k i
may_change acts _ k i = false

-- the act is the making of a region, or a write of the driver or of a daemon at addresses
abbrev pub may_change_coherent : Act → Bool
may_change_coherent (Driver (Region_made r)) = true
may_change_coherent (Driver (Driver_put at bytes)) = true
may_change_coherent (Node (Daemon_put at bytes)) = true
may_change_coherent _ = false

-- what changes memory in a history, on each device d
pub record MemoryLaw (x : Setting) (h : History) : Type 0 where
  -- a daemon's next line, on any device, changes no byte of a buffer
  pub daemons : (d : List ℕ) (step : Step) (failed : Bool) → IsTrue (is_daemons step)
      → (k i : ℕ) → ram x.per_page (acts_of x (record { step = step; failed = failed } ∷ h) d) k i ≡ ram x.per_page (acts_of x h d) k i
  -- a byte of a buffer changes only by acts that may change it
  pub others : (d : List ℕ) (act : Act) (acts : List Act) → IsMoment x h d (act ∷ acts)
      → (k i : ℕ) → may_change acts act k i ≡ false → ram x.per_page (act ∷ acts) k i ≡ ram x.per_page acts k i
  -- an unmap, and a sync to the driver, is of a live mapping
  pub unmaps : (d : List ℕ) (m : Streaming) (acts : List Act) → IsMoment x h d (Driver (Unmapped m) ∷ acts) → Among m (live_mappings acts)
  pub syncs : (d : List ℕ) (m : Streaming) (acts : List Act) → IsMoment x h d (Driver (Synced_cpu m) ∷ acts) → Among m (live_mappings acts) × IsTrue (is_from_device m.want.dir)
  -- an unmap brings the byte that stood at the mapping's address, and so does a sync
  pub unmapped : (d : List ℕ) (m : Streaming) (acts : List Act) → IsMoment x h d (Driver (Unmapped m) ∷ acts)
      → (k i : ℕ) → IsTrue (brings_back m k i) → ram x.per_page (Driver (Unmapped m) ∷ acts) k i ≡ (shown_put x.per_page acts (address_for m i)).byte
  pub synced : (d : List ℕ) (m : Streaming) (acts : List Act) → IsMoment x h d (Driver (Synced_cpu m) ∷ acts)
      → (k i : ℕ) → IsTrue (brings_back m k i) → ram x.per_page (Driver (Synced_cpu m) ∷ acts) k i ≡ (shown_put x.per_page acts (address_for m i)).byte
  -- past bounce memory of whole pages, bytes change only by acts that may change coherent ones
  pub coherent : IsWhole x → (d : List ℕ) (act : Act) (acts : List Act) → IsMoment x h d (act ∷ acts)
      → (a : ℕ) → bounce_size x ≤ a → may_change_coherent act ≡ false → shown_put x.per_page (act ∷ acts) a ≡ shown_put x.per_page acts a
