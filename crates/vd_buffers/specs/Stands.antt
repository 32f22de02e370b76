-- The buffers stand for the acts of a device.
use Rattle.std.specs.Prelude.{ℕ, ◌<◌, ◌≡◌, List, length, Bool, true, false, Some, slice_index}
use Rattle.vd_model.specs.Acts.{Act, Driver, DriverAct, Buffer, Zeroed, Freed, Poked, Unmapped, Synced_cpu}
use Rattle.vd_model.specs.Live.{buffers, buffer_len, buffers_len}
use Rattle.vd_model.specs.Puts.{ram}
use Rattle.vd_buffers.specs.Places.{Places, place_of, len_of, total_of}

-- each has the length and the bytes that the acts give it, where a page of the device has g slots
pub record Stands (g : ℕ) (acts : List Act) (places : Places) : Type 0 where
  pub count : length places ≡ buffers acts
  pub lens : (k : ℕ) → len_of places k ≡ buffer_len acts k
  pub bytes : (k : ℕ) (bytes : List ℕ) → place_of places k ≡ Some bytes → (i : ℕ) → i < length bytes → slice_index bytes i ≡ ram g acts k i
  pub total : total_of places ≡ buffers_len acts

-- an act that may change a buffer
abbrev pub is_buffer_deed : DriverAct → Bool
is_buffer_deed (Buffer bytes) = true
is_buffer_deed (Zeroed len) = true
is_buffer_deed (Freed buffer) = true
is_buffer_deed (Poked buffer at bytes) = true
is_buffer_deed (Unmapped m) = true
is_buffer_deed (Synced_cpu m) = true
is_buffer_deed _ = false

abbrev pub is_buffer_act : Act → Bool
is_buffer_act (Driver act) = is_buffer_deed act
is_buffer_act _ = false
