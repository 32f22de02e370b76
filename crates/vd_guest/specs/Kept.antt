-- What is kept of a table: its regions in another order.
use Rattle.std.specs.Prelude.{ℕ, List, Bool, true, ◌≡◌, length}
use Rattle.std.specs.List.{list_all}
use Rattle.vd_model.specs.declared.memory.Region.{Region}
use Rattle.vd_model.specs.AreaTurns.{first_region}
use Rattle.vd_vhost_model.specs.GuestTable.{is_region_of, are_apart}

-- the guest's memory, and the regions of its table
pub record GuestParts : Type 0 where
  pub memory : List ℕ
  pub regions : List Region

-- in what is kept the same is found as in the table that was given
pub record StandsFor (given kept : List Region) : Type 0 where
  pub apart : are_apart given ≡ true
  pub same : (start last : ℕ) → first_region kept start last ≡ first_region given start last

-- each region lies within a memory of so many bytes
abbrev pub AreWithin : ℕ → List Region → Type 0
AreWithin size kept = list_all (is_region_of size) kept ≡ true

pub record IsTableFor (size : ℕ) (given kept : List Region) : Type 0 where
  pub stands : StandsFor given kept
  pub within : AreWithin size kept
