-- The sides of a packed queue, of what their structs hold.
use Rattle.std.specs.Prelude.{ℕ, List, length, ◌-◌}
use Rattle.vr_pair.specs.QueueLists.{QueueLists, count_parts}
use Rattle.vr_slots.specs.declared.slot.Slot.{Slot}
use Rattle.vr_packed.specs.declared.sides.DriverSide.{DriverSide}
use Rattle.vr_packed.specs.declared.sides.DeviceSide.{DeviceSide}
use Rattle.vr_slots.specs.Slots.{slots_in}
use Rattle.vr_packed.specs.Lies.{Waits}
use Rattle.vr_packed.specs.Packed.{Sides, PackedStands}

abbrev pub sides_of : List Slot → DriverSide → DeviceSide → Sides
sides_of slots driver device = record {
  slots = slots;
  placed = driver.placed;
  reclaimed = driver.reclaimed;
  added = driver.added;
  free = driver.free.items;
  records = driver.records.items;
  read = device.read;
  written = device.written;
  given = device.given;
  taken = device.taken.items;
}

-- there are lists that the sides stand for
pub record IsStood (s : Sides) : Type 0 where
  pub lists : QueueLists
  pub stands : PackedStands s lists

-- In the bytes of a ring the parts of the waiting chains stand in order, from the place on that is the count of parts
-- of all other chains. A chain has an id of its own in all its descriptors.
pub record WaitingLie (bytes : List ℕ) (q : QueueLists) : Type 0 where
  pub ids : List ℕ
  pub lie : Waits (slots_in q.size bytes) (q.placed - count_parts q.waiting) (q.added - length q.waiting) q.waiting ids
