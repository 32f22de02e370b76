-- When nobody disturbs the rings of a device: the condition of the order law and of the block law.
use Rattle.std.specs.Prelude.{ℕ, List, ◌++◌, Bool, true, false, IsTrue, Some, ◌≡◌}
use Rattle.vd_model.specs.declared.step.Step.{Step}
use Rattle.vd_model.specs.declared.step.Step.TheVariants.{Control, Device, Queue}
use Rattle.vd_model.specs.declared.step.ControlStep.TheVariants.{Tick}
use Rattle.vd_model.specs.declared.step.DevStep.{DevStep}
use Rattle.vd_model.specs.declared.step.DevStep.TheVariants as line
use Rattle.vd_model.specs.declared.step.NodeStep.TheVariants as node
use Rattle.vd_model.specs.declared.step.AreaStep.TheVariants as area
use Rattle.vd_model.specs.declared.step.DriverStep.TheVariants as driver
use Rattle.vd_model.specs.declared.step.QueueStep.{QueueStep}
use Rattle.vd_model.specs.declared.step.QueueStep.TheVariants as queue
use Rattle.vd_model.specs.Setting.{Setting}
use Rattle.vd_model.specs.Acts.{Act, state_acts}
use Rattle.vd_model.specs.State.{is_ready}
use Rattle.vd_model.specs.DaemonTurns.{queue_place}
use Rattle.vd_model.specs.Queues.{Ring, ring_of}
use Rattle.vd_model.specs.History.{Entry, History}
use Rattle.vd_model.specs.Agree.{concerns}
use Rattle.vd_laws.specs.Among.{Among}
use Rattle.vd_laws.specs.Runs.{acts_of}

-- ---- lines

-- the line makes no coherent region, takes none away, registers nothing and puts no byte but through a mapping
abbrev pub is_calm_line : DevStep → Bool
is_calm_line (line.Node (node.Ioctl number bytes)) = false
is_calm_line (line.Node step) = true
is_calm_line (line.Bus step) = true
is_calm_line (line.Area (area.Lookup start last)) = true
is_calm_line (line.Area (area.IovaInfo start last)) = true
is_calm_line (line.Area (area.Load at len)) = true
is_calm_line (line.Driver (driver.Buf bytes)) = true
is_calm_line (line.Driver (driver.Zeros len)) = true
is_calm_line (line.Driver (driver.Free buffer)) = true
is_calm_line (line.Driver (driver.Poke buffer offset bytes)) = true
is_calm_line (line.Driver (driver.Peek buffer offset len)) = true
is_calm_line (line.Driver (driver.Map buffer offset len dir)) = true
is_calm_line (line.Driver (driver.Unmap mapping)) = true
is_calm_line (line.Driver (driver.Cget region offset len)) = true
is_calm_line _ = false

-- the line is one of the block daemon or of the block driver, or makes a ring
abbrev pub is_calm_queue_line : QueueStep → Bool
is_calm_queue_line (queue.Ring q size) = true
is_calm_queue_line (queue.Submit q form) = true
is_calm_queue_line (queue.Fetch q) = true
is_calm_queue_line (queue.Execute q) = true
is_calm_queue_line (queue.Finish q) = true
is_calm_queue_line (queue.Poll q) = true
is_calm_queue_line _ = false

-- a step that may stand in the span of a device's requests
abbrev pub is_calm : Step → Bool
is_calm (Control (Tick seconds)) = true
is_calm (Control step) = false
is_calm (Device name step) = is_calm_line step
is_calm (Queue name step) = is_calm_queue_line step

-- ---- calm histories

-- a ready queue has a ring, and the device was told the ring's own size and addresses
pub record IsDescribed (acts : List Act) (q : ℕ) : Type 0 where
  pub ring : Ring
  pub there : ring_of acts q ≡ Some ring
  pub same : queue_place acts q ≡ ring.place

-- nobody disturbs the rings of the device, in a span that begins before the first of the rings that it has was made
pub record IsCalm (x : Setting) (h : History) (d : List ℕ) : Type 0 where
  -- the span, and what was before
  pub span : History
  pub start : History
  pub split : h ≡ span ++ start
  -- the rings that the device has were made in the span
  pub acts : List Act
  pub acted : acts_of x h d ≡ acts ++ acts_of x start d
  pub made : (q : ℕ) (ring : Ring) → ring_of (acts_of x h d) q ≡ Some ring → ring_of acts q ≡ Some ring
  -- at every moment of the history each ready queue is as its ring is
  pub described : (later g : History) → h ≡ later ++ g → (q : ℕ) → IsTrue (is_ready (state_acts (acts_of x g d)) q) → IsDescribed (acts_of x g d) q
  -- in the span only calm lines name the device
  pub calm : (entry : Entry) → Among entry span → IsTrue (concerns d entry.step) → IsTrue (is_calm entry.step)
