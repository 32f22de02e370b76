use Rattle.std.proofs.Common.{◌≡◌, ◌≤◌, true, length, drop}
use Rattle.std.specs.List.{list_all}
use Rattle.vd_vhost_model.specs.GuestTable.{is_region_of}
use Rattle.vd_guest.specs.Kept.{IsTableFor}
use Rattle.vd_guest.proofs.table.table_of.Given as goal

-- the regions from this one on are in the table
abbrev pub invariant-loop-left : goal.invariant-loop-left
invariant-loop-left l = record {
  within : l.left ≤ length l.spans;
  good : list_all (is_region_of l.size) l.spans ≡ true;
  table : IsTableFor l.size (drop l.left l.spans) l.table;
}

abbrev pub decreases-loop-left : goal.decreases-loop-left
decreases-loop-left l = l.left
