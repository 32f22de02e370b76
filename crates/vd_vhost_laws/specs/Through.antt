-- Through which region an address is accessed, and where an access fails first.
use Rattle.std.specs.Prelude.{ℕ, ◌+◌, ◌-◌, ◌%◌, ◌^◌, ◌<◌, ◌≤◌, ◌≡◌, List, true, false}
use Rattle.vd_model.specs.declared.memory.Region.{Region}
use Rattle.vd_laws.specs.Among.{Among}
use Rattle.vd_vhost_model.specs.declared.access.Access.{Access}
use Rattle.vd_vhost_model.specs.declared.access.Denied.{Denied}
use Rattle.vd_vhost_model.specs.declared.access.Denied.TheVariants.{Bus, Perm}
use Rattle.vd_vhost_model.specs.GuestTable.{permits}

-- the address after i others; the last address is followed by 0
abbrev pub address_after : ℕ → ℕ → ℕ
address_after at i = (at + i) % 2 ^ 64

-- the region is one of the table's, and holds the address
pub record Holds (table : List Region) (r : Region) (at : ℕ) : Type 0 where
  pub among : Among r table
  pub low : r.start ≤ at
  pub high : at ≤ r.last

-- the address stands for byte o of the guest's memory, through a region of the table that permits the access
pub record IsThrough (table : List Region) (access : Access) (at o : ℕ) : Type 0 where
  pub region : Region
  pub holds : Holds table region at
  pub permitted : permits access region ≡ true
  pub byte : o ≡ region.offset + (at - region.start)

-- no region holds the address, or one does that doesn't permit the access
abbrev pub BreaksRule : List Region → Access → ℕ → Denied → Type 0
BreaksRule table access at (Bus a) = (a ≡ at) × ((r : Region) → Holds table r at → ⊥)
BreaksRule table access at (Perm a) = (a ≡ at) × (r : Region) × Holds table r at × (permits access r ≡ false)

-- of the len addresses from this one on, that is the first which can't be accessed
pub record FailsFirst (table : List Region) (access : Access) (at len : ℕ) (why : Denied) : Type 0 where
  pub index : ℕ
  pub within : index < len
  pub before : (i : ℕ) → i < index → (o : ℕ) × IsThrough table access (address_after at i) o
  pub breaks : BreaksRule table access (address_after at index) why
