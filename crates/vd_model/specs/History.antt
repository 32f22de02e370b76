-- The history machine: what each step is answered after a history, and what it does.
use Rattle.std.specs.Prelude.{ℕ, List, [], ◌∷◌, ◌++◌, Bool, true, false, not, map}
use Rattle.std.specs.Option.{option_map_or}
use Rattle.vd_num.specs.declared.errno.Errno.TheVariants.{Badf, Busy, Nodev}
use Rattle.vd_model.specs.declared.answer.Answer.{Answer}
use Rattle.vd_model.specs.declared.step.Step.{Step}
use Rattle.vd_model.specs.declared.step.Step.TheVariants.{Control, Device, Queue}
use Rattle.vd_model.specs.declared.step.DevStep.{DevStep}
use Rattle.vd_model.specs.declared.step.DevStep.TheVariants as line
use Rattle.vd_model.specs.declared.step.DriverStep.{DriverStep}
use Rattle.vd_model.specs.declared.step.DriverStep.TheVariants as driver
use Rattle.vd_model.specs.declared.step.QueueStep.{QueueStep}
use Rattle.vd_model.specs.declared.step.QueueStep.TheVariants as queue
use Rattle.vd_model.specs.Setting.{Setting}
use Rattle.vd_model.specs.Acts.{Act, Node, Driver}
use Rattle.vd_model.specs.Live.{is_open, is_attached}
use Rattle.vd_model.specs.Turn.{Turn, refusal_turn, refuse, refusal_if, lift}
use Rattle.vd_model.specs.DriverTurns.{driver_turn}
use Rattle.vd_model.specs.AreaTurns.{area_turn}
use Rattle.vd_model.specs.NodeTurns.{node_turn}
use Rattle.vd_model.specs.BusTurns.{bus_turn}
use Rattle.vd_model.specs.Queues.{some_pending, made_buffer, has_map, is_ring_region}
use Rattle.vd_model.specs.Block.{Disk}
use Rattle.vd_model.specs.DaemonTurns.{walk_turn, fetch_turn, execute_turn, finish_turn}
use Rattle.vd_model.specs.RingTurns.{ring_turn, unring_turn, add_turn, publish_turn, submit_turn, poll_turn}
use Rattle.vd_model.specs.Creation.{Creation}
use Rattle.vd_model.specs.Deeds.{Deed, On, Seen, device_view}
use Rattle.vd_model.specs.ControlTurns.{Outcome, control_outcome}

-- a daemon's line on memory needs a session, and a driver's line a device on the bus
abbrev pub needs_session : List Act → Turn Act → Turn Act
needs_session done turn = refuse (refusal_if (not (is_open done)) Badf) turn

abbrev pub needs_bus : List Act → Turn Act → Turn Act
needs_bus done turn = refuse (refusal_if (not (is_attached done)) Nodev) turn

-- what belongs to a ring or to a pending request isn't the driver's to use: a buffer that a request made can't be mapped,
-- its mappings can't be unmapped, and a ring's region can't be freed
abbrev pub is_kept : Creation → List Act → DriverStep → Bool
is_kept made done (driver.Map buffer offset len dir) = some_pending (made_buffer buffer) done made.queues
is_kept made done (driver.Unmap mapping) = some_pending (has_map mapping) done made.queues
is_kept made done (driver.FreeCoherent region) = is_ring_region done region made.queues
is_kept made done _ = false

abbrev pub needs_unkept : Creation → List Act → DriverStep → Turn Act → Turn Act
needs_unkept made done step turn = refuse (refusal_if (is_kept made done step) Busy) turn

-- a line on a device that was made with this
abbrev pub dev_turn : Setting → Creation → Seen → DevStep → Turn Act
dev_turn x made seen (line.Node step) = node_turn x made seen.acts step
dev_turn x made seen (line.Area step) = needs_session seen.acts (lift Node (area_turn x seen.acts step))
dev_turn x made seen (line.Bus step) = bus_turn made seen.now seen.acts step
dev_turn x made seen (line.Driver step) = needs_bus seen.acts (needs_unkept made seen.acts step (lift Driver (driver_turn x seen.acts step)))

-- the disk that a device's requests go to: its name's window of the image
abbrev pub disk_of : Creation → List ℕ → Seen → Disk
disk_of made name seen =
    record { sectors = option_map_or (λ w. w.count) seen.window 0; byte = seen.disk; features = made.features; name = name }

-- a line on a queue of a device that was made with this: the block daemon's need a session, the driver's the bus
abbrev pub queue_turn : Setting → Creation → List ℕ → Seen → Bool → QueueStep → Turn Act
queue_turn x made name seen failed (queue.Walk q head) = needs_session seen.acts (walk_turn x made seen.acts q head)
queue_turn x made name seen failed (queue.Fetch q) = needs_session seen.acts (fetch_turn x made seen.acts q)
queue_turn x made name seen failed (queue.Execute q) = needs_session seen.acts (execute_turn x made (disk_of made name seen) failed seen.acts q)
queue_turn x made name seen failed (queue.Finish q) = needs_session seen.acts (finish_turn x made seen.acts q)
queue_turn x made name seen failed (queue.Ring q size) = needs_bus seen.acts (ring_turn x made seen.acts q size)
queue_turn x made name seen failed (queue.Unring q) = needs_bus seen.acts (unring_turn made seen.acts q)
queue_turn x made name seen failed (queue.Add q parts) = needs_bus seen.acts (add_turn made seen.acts q parts)
queue_turn x made name seen failed (queue.Publish q) = needs_bus seen.acts (publish_turn x made seen.acts q)
queue_turn x made name seen failed (queue.Submit q asked) = needs_bus seen.acts (submit_turn x made seen.acts q asked)
queue_turn x made name seen failed (queue.Poll q) = needs_bus seen.acts (poll_turn x made seen.acts q)

-- a line on a device, which is refused where there is none of the name
abbrev pub device_turn : Setting → Seen → DevStep → Turn Act
device_turn x seen step = option_map_or (λ made. dev_turn x made seen step) seen.made (refusal_turn Nodev)

abbrev pub device_queue_turn : Setting → List ℕ → Seen → Bool → QueueStep → Turn Act
device_queue_turn x name seen failed step = option_map_or (λ made. queue_turn x made name seen failed step) seen.made (refusal_turn Nodev)

-- a turn of the device of this name
abbrev pub device_outcome : List ℕ → Turn Act → Outcome
device_outcome name turn = record { answer = turn.answer; deeds = map (On name) turn.acts }

-- what a step is answered after some deeds, and what it does; `failed` tells that the image failed at it
abbrev pub outcome : Setting → List Deed → Step → Bool → Outcome
outcome x done (Control step) failed = control_outcome x done step
outcome x done (Device name step) failed = device_outcome name (device_turn x (device_view x name done) step)
outcome x done (Queue name step) failed = device_outcome name (device_queue_turn x name (device_view x name done) failed step)

-- what was asked: a step, and whether the image failed at it
pub record Entry : Type 0 where
  pub step : Step
  pub failed : Bool

-- a history is what was asked, the newest first
abbrev pub History : Type 0
History = List Entry

-- what was done in a history
unfoldable pub deeds_of : Setting → History → List Deed
deeds_of x [] = []
deeds_of x (entry ∷ before) = (outcome x (deeds_of x before) entry.step entry.failed).deeds ++ deeds_of x before

-- the answer to a step after a history
abbrev pub reply : Setting → History → Step → Bool → Answer
reply x before step failed = (outcome x (deeds_of x before) step failed).answer
