-- The sides of a split queue, of what its pair holds.
use Rattle.std.specs.Prelude.{ℕ, ◌<◌, ◌⊎◌, length}
use Rattle.vd_model.specs.Memory.{Memory, bytes_from}
use Rattle.vr_driver.specs.Side.{DriverSide, unowned_descriptors}
use Rattle.vr_device.specs.Side.{Side}
use Rattle.vr_split.specs.declared.vec_mem.VecMem.{VecMem}
use Rattle.vr_pair.specs.QueueLists.{QueueLists}
use Rattle.vr_split_pair.specs.declared.chain.Chains.{Chains}
use Rattle.vr_split_pair.specs.Split.{Sides, SplitStands}

-- the bytes of a memory
abbrev pub memory_of : VecMem → Memory
memory_of mem = bytes_from mem.base mem.bytes.items

abbrev pub sides_of : VecMem → DriverSide → Side → Chains → Sides
sides_of mem driver device chains = record {
  memory = memory_of mem;
  driver = driver;
  device = device;
  numbers = chains.numbers.items;
  taken = chains.taken.items;
  added = chains.added;
  placed = chains.placed;
}

-- there are lists that the sides stand for
pub record IsStood (s : Sides) : Type 0 where
  pub lists : QueueLists
  pub stands : SplitStands s lists

-- more descriptors are wanted than the ring has, or than are free
abbrev pub IsTooMany : DriverSide → ℕ → Type 0
IsTooMany driver n = (driver.place.size < n) ⊎ (length (unowned_descriptors driver) < n)
