-- The statuses of a run of lines.
use Rattle.std.specs.Prelude.{ℕ, ◌+◌, Bool, true, false, ◌==◌, ◌||◌, ◌&&◌, nat_le, if◌then◌else◌}
use Rattle.vd_loop.specs.declared.progress.Stop.{Stop}
use Rattle.vd_loop.specs.declared.progress.Stop.TheVariants.{End, SourceFailed, SinkFailed, Memory, BadLine, TooLong}
use Rattle.vd_lines.specs.declared.reader.ReadFault.{ReadFault}
use Rattle.vd_lines.specs.declared.reader.ReadFault.TheVariants.{Failed, TooLong as FaultTooLong, Memory as FaultMemory}

-- no fault of the source or of the sink
abbrev pub is_own : Stop → Bool
is_own SourceFailed = false
is_own SinkFailed = false
is_own _ = true

-- the stop at which no line is read
abbrev pub stop_of_fault : ReadFault → Stop
stop_of_fault Failed = SourceFailed
stop_of_fault FaultTooLong = TooLong
stop_of_fault FaultMemory = Memory

-- the status of each stop
abbrev pub status_of : Stop → ℕ
status_of End = 0
status_of SourceFailed = 3
status_of SinkFailed = 4
status_of Memory = 5
status_of BadLine = 6
status_of TooLong = 7

-- the line at which a run stopped, 0 where no line stopped it
abbrev pub line_of : Stop → ℕ → ℕ
line_of BadLine lines = lines + 1
line_of TooLong lines = lines + 1
line_of _ lines = 0

-- the stop of each status
abbrev pub stop_of_status : ℕ → Stop
stop_of_status n =
    if n == 0 then End else (if n == 3 then SourceFailed else (if n == 4 then SinkFailed else (if n == 6 then BadLine else (if n == 7 then TooLong else Memory))))

-- a status that a run of lines can end with
abbrev pub is_status : ℕ → Bool
is_status n = (n == 0) || nat_le 3 n && nat_le n 7

-- a status that names the line at which the run stopped
abbrev pub is_line_status : ℕ → Bool
is_line_status n = (n == 6) || (n == 7)
