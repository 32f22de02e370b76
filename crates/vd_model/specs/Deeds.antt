-- What was done to all devices, the newest first, and what of it one device sees.
use Rattle.std.specs.Prelude.{ℕ, ◌+◌, ◌-◌, ◌*◌, List, [], ◌∷◌, Bool, true, false, ◌||◌, not, ◌&&◌, nat_lt, nat_le, if◌then◌else◌, Option, Some, None, is_some, unwrap_or}
use Rattle.std.specs.Str.{bytes_eq}
use Rattle.std.specs.Option.{option_map_or}
use Rattle.vd_model.specs.declared.memory.Window.{Window}
use Rattle.vd_model.specs.Setting.{Setting}
use Rattle.vd_model.specs.Acts.{Act, Message_act, Disk_act, Stored}
use Rattle.vd_model.specs.Messages.{Elapsed}
use Rattle.vd_model.specs.Puts.{byte_in}
use Rattle.vd_model.specs.Creation.{Creation}

-- a device was made or destroyed, an act was done to one, a name got sectors of the image, or time passed for all
pub data Deed : Type 0 where
  Made : List ℕ → Creation → Deed
  Destroyed : List ℕ → Deed
  On : List ℕ → Act → Deed
  Given : List ℕ → Window → Deed
  Passed : ℕ → Deed

-- the acts of one device since it was last made, and the ticks
abbrev pub acts_of_device : List ℕ → List Deed → List Act
acts_of_device name [] = []
acts_of_device name (Made made creation ∷ before) = if bytes_eq name made then [] else acts_of_device name before
acts_of_device name (On done act ∷ before) = if bytes_eq name done then act ∷ acts_of_device name before else acts_of_device name before
acts_of_device name (Passed now ∷ before) = Message_act (Elapsed now) ∷ acts_of_device name before
acts_of_device name (_ ∷ before) = acts_of_device name before

-- what the device of this name was made with, if there is one
abbrev pub made_with : List ℕ → List Deed → Option Creation
made_with name [] = None
made_with name (Made made creation ∷ before) = if bytes_eq name made then Some creation else made_with name before
made_with name (Destroyed gone ∷ before) = if bytes_eq name gone then None else made_with name before
made_with name (_ ∷ before) = made_with name before

-- there is a device of this name
abbrev pub has_device : List ℕ → List Deed → Bool
has_device name done = is_some (made_with name done)

-- how many devices there are
abbrev pub devices : List Deed → ℕ
devices [] = 0
devices (Made made creation ∷ before) = devices before + 1
devices (Destroyed gone ∷ before) = devices before - 1
devices (_ ∷ before) = devices before

-- the time
abbrev pub clock : List Deed → ℕ
clock [] = 0
clock (Passed now ∷ before) = now
clock (_ ∷ before) = clock before

-- the sectors of the image that a name has, for the whole run
abbrev pub window_of : List ℕ → List Deed → Option Window
window_of name [] = None
window_of name (Given given window ∷ before) = if bytes_eq name given then Some window else window_of name before
window_of name (_ ∷ before) = window_of name before

-- the sectors from first on, so many, and a window that some name has share one
abbrev pub is_given : ℕ → ℕ → List Deed → Bool
is_given first count [] = false
is_given first count (Given given window ∷ before) =
    (nat_lt first (window.first + window.count) && nat_lt window.first (first + count)) || is_given first count before
is_given first count (_ ∷ before) = is_given first count before

-- the first byte of a name's window
abbrev pub window_start : List ℕ → List Deed → ℕ
window_start name before = option_map_or (λ w. 512 * w.first) (window_of name before) 0

-- byte i of the image: the last one that was stored there, else that of the image at the start
abbrev pub image_byte : Setting → List Deed → ℕ → ℕ
image_byte x [] i = x.content i
image_byte x (On name (Disk_act (Stored at bytes)) ∷ before) i =
    unwrap_or (byte_in bytes (window_start name before + at) i) (image_byte x before i)
image_byte x (_ ∷ before) i = image_byte x before i

-- the acts of a name in the whole run, those on devices of the name that are gone among them
abbrev pub acts_of_name : List ℕ → List Deed → List Act
acts_of_name name [] = []
acts_of_name name (On done act ∷ before) = if bytes_eq name done then act ∷ acts_of_name name before else acts_of_name name before
acts_of_name name (_ ∷ before) = acts_of_name name before

-- byte i of a window: the last one that these acts stored there, else that of the window at the start
abbrev pub window_byte : (ℕ → ℕ) → List Act → ℕ → ℕ
window_byte start [] i = start i
window_byte start (Disk_act (Stored at bytes) ∷ acts) i = unwrap_or (byte_in bytes at i) (window_byte start acts i)
window_byte start (_ ∷ acts) i = window_byte start acts i

-- all that a line on a device may look at: what the device was made with, its acts, the time, its window, and the
-- bytes of its window
pub record Seen : Type 0 where
  pub made : Option Creation
  pub acts : List Act
  pub now : ℕ
  pub window : Option Window
  pub disk : ℕ → ℕ

abbrev pub device_view : Setting → List ℕ → List Deed → Seen
device_view x name done = record {
  made = made_with name done;
  acts = acts_of_device name done;
  now = clock done;
  window = window_of name done;
  disk = window_byte (λ i. x.content (window_start name done + i)) (acts_of_name name done);
}
