-- The law on what a daemon reads.
use Rattle.std.specs.Prelude.{ℕ, ◌+◌, ◌<◌, List, [], ◌∷◌, Bool, IsTrue, ◌≡◌, Some, Ok, slice_index}
use Rattle.vd_model.specs.declared.step.Step.TheVariants.{Device, Queue}
use Rattle.vd_model.specs.declared.step.DevStep.TheVariants as line
use Rattle.vd_model.specs.declared.step.AreaStep.TheVariants as area
use Rattle.vd_model.specs.declared.step.QueueStep.TheVariants as queue
use Rattle.vd_model.specs.declared.answer.Answer.TheVariants.{Done}
use Rattle.vd_model.specs.declared.answer.Item.TheVariants.{Text}
use Rattle.vd_model.specs.Setting.{Setting}
use Rattle.vd_model.specs.Acts.{Act}
use Rattle.vd_model.specs.Puts.{Area, last_put, shown_put}
use Rattle.vd_model.specs.Memory.{read}
use Rattle.vd_model.specs.Deeds.{Seen, device_view}
use Rattle.vd_model.specs.AreaTurns.{is_accessible}
use Rattle.vd_model.specs.DaemonTurns.{daemon_memory}
use Rattle.vd_model.specs.History.{History, outcome, reply, deeds_of}
use Rattle.vd_laws.specs.Runs.{acts_of, IsMoment}
use Rattle.vd_laws.specs.Alike.{LooksAlike, HasSameDisk, KeepsAlike}
use Rattle.vd_laws.specs.Origins.{Comes, IsReadableAt, IsReadableIn}

-- the address can be accessed, and this is its byte
pub record IsShown (x : Setting) (acts : List Act) (a byte : ℕ) : Type 0 where
  pub accessible : IsTrue (is_accessible x acts a)
  pub stands : byte ≡ (shown_put x.per_page acts a).byte

-- byte o of the area has this value, and it is a zero, a daemon wrote it there, or the device's own driver handed it, at
-- the address whose cell it is where one is
pub record IsInArea (x : Setting) (acts : List Act) (o byte : ℕ) : Type 0 where
  pub stands : byte ≡ (last_put x.per_page acts (Area o)).byte
  pub readable : IsReadableIn x.per_page acts o byte

-- what a device's daemon can look at after a history
abbrev pub seen_after : Setting → History → List ℕ → Seen
seen_after x h d = device_view x d (deeds_of x h)

-- what a daemon of any device reads in a history, and where it came from
pub record ReadLaw (x : Setting) (h : History) : Type 0 where
  -- a load is answered with bytes of addresses that can be accessed
  pub loads : (d : List ℕ) (at len : ℕ) (failed : Bool) (bytes : List ℕ)
      → reply x h (Device d (line.Area (area.Load at len))) failed ≡ Done (Text bytes ∷ [])
      → (i : ℕ) → i < len → IsShown x (acts_of x h d) (at + i) (slice_index bytes i)
  -- and each of them is a zero, a daemon wrote it at this address, or the device's own driver handed it there
  pub loads_readable : (d : List ℕ) (at len : ℕ) (failed : Bool) (bytes : List ℕ)
      → reply x h (Device d (line.Area (area.Load at len))) failed ≡ Done (Text bytes ∷ [])
      → (i : ℕ) → i < len → IsReadableAt x.per_page (acts_of x h d) (at + i) (slice_index bytes i)
  -- what an areaget is answered stands in the area, where a registration keeps the bytes of addresses
  pub areagets : (d : List ℕ) (at len : ℕ) (failed : Bool) (bytes : List ℕ)
      → reply x h (Device d (line.Area (area.AreaGet at len))) failed ≡ Done (Text bytes ∷ [])
      → (i : ℕ) → i < len → IsInArea x (acts_of x h d) (at + i) (slice_index bytes i)
  -- what stands at an address came from where its origin says
  pub origins : (d : List ℕ) (acts : List Act) → IsMoment x h d acts → (a : ℕ) → Comes x.per_page acts a (shown_put x.per_page acts a)
  -- the block daemon's memory has the bytes of the addresses that can be accessed, and nothing else
  pub memory : (d : List ℕ) (acts : List Act) → IsMoment x h d acts → (a byte : ℕ) → daemon_memory x acts a ≡ Some byte → IsShown x acts a byte
  -- what the block daemon reads are bytes of addresses that can be accessed
  pub reads : (d : List ℕ) (acts : List Act) → IsMoment x h d acts
      → (at len : ℕ) (bytes : List ℕ) → read (daemon_memory x acts) at len ≡ Ok bytes
      → (i : ℕ) → i < len → IsShown x acts (at + i) (slice_index bytes i)
  -- and each of them is a zero, a daemon wrote it at this address, or the device's own driver handed it there
  pub reads_readable : (d : List ℕ) (acts : List Act) → IsMoment x h d acts
      → (at len : ℕ) (bytes : List ℕ) → read (daemon_memory x acts) at len ≡ Ok bytes
      → (i : ℕ) → i < len → IsReadableAt x.per_page acts (at + i) (slice_index bytes i)
  -- a walk sees nothing else of memory: where the devices look alike it is answered alike
  pub walks : (g : History) (d : List ℕ) → LooksAlike x (seen_after x h d) (seen_after x g d)
      → (q head : ℕ) (failed : Bool)
      → outcome x (deeds_of x h) (Queue d (queue.Walk q head)) failed ≡ outcome x (deeds_of x g) (Queue d (queue.Walk q head)) failed
  -- nor does a fetch, or a finish: where the daemon keeps the same of the queue they are answered alike and write alike
  pub fetches : (g : History) (d : List ℕ) (q : ℕ) → LooksAlike x (seen_after x h d) (seen_after x g d) → KeepsAlike x (acts_of x h d) (acts_of x g d) q
      → (failed : Bool)
      → outcome x (deeds_of x h) (Queue d (queue.Fetch q)) failed ≡ outcome x (deeds_of x g) (Queue d (queue.Fetch q)) failed
  pub finishes : (g : History) (d : List ℕ) (q : ℕ) → LooksAlike x (seen_after x h d) (seen_after x g d) → KeepsAlike x (acts_of x h d) (acts_of x g d) q
      → (failed : Bool)
      → outcome x (deeds_of x h) (Queue d (queue.Finish q)) failed ≡ outcome x (deeds_of x g) (Queue d (queue.Finish q)) failed
  -- an execute sees none of it: what it does to the disk was read at the fetch
  pub executes : (g : History) (d : List ℕ) (q : ℕ) → HasSameDisk (seen_after x h d) (seen_after x g d) → KeepsAlike x (acts_of x h d) (acts_of x g d) q
      → (failed : Bool)
      → outcome x (deeds_of x h) (Queue d (queue.Execute q)) failed ≡ outcome x (deeds_of x g) (Queue d (queue.Execute q)) failed
