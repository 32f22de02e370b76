-- What a driver's buffers and mappings are, by the acts of its device.
use Rattle.std.specs.Prelude.{ℕ, ◌+◌, ◌<◌, ◌==◌, List, [], ◌∷◌, ◌++◌, Bool, false, nat_le, Option, find}
use Rattle.std.specs.Option.{option_map_or}
use Rattle.vd_model.specs.declared.memory.Want.{Want}
use Rattle.vd_model.specs.Acts.{Act, Streaming}
use Rattle.vd_model.specs.Live.{buffer_len, live_mappings}
use Rattle.vd_model.specs.Puts.{ram_bytes}

-- a buffer is there, and has the range
abbrev pub has_range : List Act → ℕ → ℕ → ℕ → Bool
has_range acts buffer offset len = option_map_or (λ size. nat_le (offset + len) size) (buffer_len acts buffer) false

-- how many bytes some wants have together
abbrev pub bytes_of : List Want → ℕ
bytes_of [] = 0
bytes_of (want ∷ wants) = want.len + bytes_of wants

-- the bytes of some wants, one after another
abbrev pub wanted_bytes : ℕ → List Act → List Want → List ℕ
wanted_bytes g acts [] = []
wanted_bytes g acts (want ∷ wants) = ram_bytes g acts want.buffer want.offset want.len ++ wanted_bytes g acts wants

-- the live mapping of a number
abbrev pub live_mapping : List Act → ℕ → Option Streaming
live_mapping acts number = find (λ m. m.number == number) (live_mappings acts)

-- each mapping has a number below this one
abbrev pub AreNumbered : ℕ → List Streaming → Type 0
AreNumbered made [] = Unit {0}
AreNumbered made (m ∷ ms) = (m.number < made) × AreNumbered made ms
