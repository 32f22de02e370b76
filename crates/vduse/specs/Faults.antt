-- The status that a program ends with for each fault.
use Rattle.std.specs.Prelude.{ℕ}
use Rattle.vduse.specs.declared.fault.Fault.{Fault}
use Rattle.vduse.specs.declared.fault.Fault.TheVariants.{Usage, Read, Write, Memory, Grammar, Long, Image, Path, Size, Unflushed}

-- the status of a fault
abbrev pub status_of : Fault → ℕ
status_of Usage = 2
status_of (Read _) = 3
status_of (Write _) = 4
status_of (Memory _) = 5
status_of (Grammar _ _) = 6
status_of (Long _) = 7
status_of (Image _) = 8
status_of Path = 8
status_of Size = 8
status_of Unflushed = 9
