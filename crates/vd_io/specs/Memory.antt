-- What contracts see of the forms in memory.
use Rattle.std.specs.Prelude.{ℕ, ◌-◌, List, length, Bool, ◌==◌, ◌||◌}
use Rattle.vd_io.specs.Faults.{Calls, is_to_fail}

-- a source: the bytes that are left
pub record Text : Type 0 where
  pub left : List ℕ
  pub calls : Calls

-- a sink: the bytes that it holds, and how many it has room for
pub record Held : Type 0 where
  pub bytes : List ℕ
  pub room : ℕ
  pub calls : Calls

-- the next push fails: no room is left, or it is to fail
abbrev pub is_refused : Held → Bool
is_refused sink = ((sink.room - length sink.bytes) == 0) || is_to_fail sink.calls

-- an image: its sectors, its bytes, and how often it was flushed
pub record Medium : Type 0 where
  pub sectors : ℕ
  pub bytes : List ℕ
  pub flushes : ℕ
  pub calls : Calls
