use Rattle.std.proofs.Common.{◌≡◌, ◌≤◌}
use Rattle.blk_dirty.specs.Dirty.{bytes_at, clean}
use Rattle.blk_dirty.proofs.dirty.Dirty.clean.Given as goal

abbrev pub invariant-loop-i : goal.invariant-loop-i
invariant-loop-i l = record {
  is : l.clean ≡ clean (bytes_at l.self) l.first l.i;
  most : l.clean ≤ l.i;
}
