-- The driver's lines on a ring that a queue has, and which line on the device takes what belongs to a queue.
use Rattle.std.specs.Prelude.{ℕ, ◌<◌, List, length, Bool, false, ◌&&◌}
use Rattle.vd_model.specs.Creation.{Creation}
use Rattle.vd_model.specs.Setting.{Setting}
use Rattle.vd_model.specs.Acts.{Act}
use Rattle.vd_model.specs.Live.{is_attached}
use Rattle.vd_model.specs.Turn.{Turn}
use Rattle.vd_model.specs.History.{is_kept}
use Rattle.vd_model.specs.RingTurns.{unring_turn, add_turn, publish_turn, poll_turn}
use Rattle.vd_model.specs.declared.step.DevStep.{DevStep}
use Rattle.vd_model.specs.declared.step.DevStep.TheVariants.{Driver}
use Rattle.vd_model.specs.DaemonTurns.{fetch_turn, finish_turn}
use Rattle.vd_instance.specs.declared.line.RingLine.{RingLine}
use Rattle.vd_instance.specs.declared.line.RingLine.TheVariants.{Unring, Add, Publish, Poll}
use Rattle.vd_instance.specs.declared.service.DaemonLine.{DaemonLine}
use Rattle.vd_instance.specs.declared.service.DaemonLine.TheVariants.{Fetch, Finish}

abbrev pub ring_line_turn : Setting → Creation → List Act → ℕ → RingLine → Turn Act
ring_line_turn x made acts q Unring = unring_turn made acts q
ring_line_turn x made acts q (Add parts) = add_turn made acts q parts.now
ring_line_turn x made acts q Publish = publish_turn x made acts q
ring_line_turn x made acts q Poll = poll_turn x made acts q

-- the block daemon's lines on the memory of the device
abbrev pub daemon_line_turn : Setting → Creation → List Act → ℕ → DaemonLine → Turn Act
daemon_line_turn x made acts q Fetch = fetch_turn x made acts q
daemon_line_turn x made acts q Finish = finish_turn x made acts q

-- a chain that is added has parts
abbrev pub HasParts : RingLine → Type 0
HasParts (Add parts) = 0 < length parts.now
HasParts _ = Unit {0}

-- the line is of the driver, on a device on the bus, and takes the region of a ring, or a buffer or a mapping of a pending request
abbrev pub takes_kept : Creation → List Act → DevStep → Bool
takes_kept made acts (Driver step) = is_attached acts && is_kept made acts step
takes_kept made acts _ = false
