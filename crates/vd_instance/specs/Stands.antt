-- A device with its queues, over the pool that its frames were taken from, stands for the acts that were done to it.
use Rattle.std.specs.Prelude.{ℕ, ◌≡◌, ◌≤◌, ◌*◌, ◌++◌, List, length, Option, Some, None, slice_index_or}
use Rattle.vd_pool.specs.Memory.{PoolMemory as Pool}
use Rattle.vd_bounce.specs.Frames.{Holds, Keeps}
use Rattle.vd_model.specs.Setting.{Setting}
use Rattle.vd_model.specs.Creation.{Creation}
use Rattle.vd_model.specs.Acts.{Act, state_acts}
use Rattle.vd_model.specs.State.{num_of}
use Rattle.vd_model.specs.Queues.{Ring, ring_of}
use Rattle.vd_device.specs.Stands as device
use Rattle.vd_rings.specs.declared.held.HeldRing.{HeldRing}
use Rattle.vd_request_laws.specs.Owned.{AreOwned}
use Rattle.vd_request_lines.specs.declared.held.HeldDriver.{HeldDriver}
use Rattle.vd_request_lines.specs.Stands.{RequestsStand, ring_in}
use Rattle.vd_instance.specs.declared.instance.Instance.{Instance}
use Rattle.vd_instance.specs.Daemons.{DaemonsHold, AreNamed}

-- what is kept of the driver's side of a queue, if it has a ring
abbrev pub kept_driver : Instance → ℕ → Option HeldDriver
kept_driver i q = slice_index_or i.drivers.items q None

-- and its ring alone
abbrev pub kept_ring : Instance → ℕ → Option HeldRing
kept_ring i q = ring_in (kept_driver i q)

-- no two queues have their rings in one region
abbrev pub HaveOwnRegions : List Act → Type 0
HaveOwnRegions acts = (q k : ℕ) (r s : Ring) → ring_of acts q ≡ Some r → ring_of acts k ≡ Some s → r.region ≡ s.region → q ≡ k

-- there are a place for the driver's side and a daemon of each queue, what pending requests have is their own, and each queue
-- has a size that a driver may choose
pub record Stands (x : Setting) (made : Creation) (acts : List Act) (i : Instance) (m : Pool) : Type 0 where
  pub device : device.Stands x made acts i.device m
  pub drivers : (q : ℕ) → RequestsStand acts q (kept_driver i q)
  pub places : length i.drivers.items ≡ made.queues
  pub owned : AreOwned acts made.queues
  pub apart : HaveOwnRegions acts
  pub sizes : (q : ℕ) → num_of (state_acts acts) q ≤ 32768
  pub daemons : DaemonsHold x acts i.daemons.items
  pub count : length i.daemons.items ≡ made.queues

-- some acts are those that it stands for
pub record IsReached (i : Instance) (m : Pool) : Type 0 where
  pub setting : Setting
  pub made : Creation
  pub acts : List Act
  pub stands : Stands setting made acts i m

-- the frames that it holds, page by page, and how many slots a page has
abbrev pub frames : Instance → List (Option ℕ)
frames i = device.frames i.device

abbrev pub page_size : Instance → ℕ
page_size i = i.device.memory.domain.bounce.per_page

-- its frames are out of the pool, which has pages of its size
pub record IsHeld (i : Instance) (m : Pool) : Type 0 where
  pub holds : Holds (frames i) m
  pub size : m.per_page ≡ page_size i

-- after so many lines no count is above four times this number: a request has up to four mappings
abbrev pub IsWithin : ℕ → Instance → Type 0
IsWithin most i = device.IsWithin (4 * most) i.device

-- it stands for these acts after those before
abbrev pub After : Setting → Creation → List Act → Instance → Pool → List Act → Type 0
After x made done i m acts = Stands x made (acts ++ done) i m

-- the frames of others stay, its own are in the pool, and a page keeps its size
pub record KeepsOthers (old new : Instance) (before after : Pool) : Type 0 where
  pub kept : Keeps (frames old) (frames new) before after
  pub page : page_size new ≡ page_size old

-- it stands for these acts and some more
pub record StandsForMore (x : Setting) (made : Creation) (acts : List Act) (i : Instance) (m : Pool) : Type 0 where
  pub more : List Act
  pub stands : Stands x made (more ++ acts) i m

-- the daemons of its queues have this name
abbrev pub IsNamed : List ℕ → Instance → Type 0
IsNamed name i = AreNamed name i.daemons.items
