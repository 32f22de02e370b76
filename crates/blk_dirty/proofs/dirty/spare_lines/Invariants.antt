use Rattle.std.proofs.Common.{◌≡◌, ◌≤◌, length, vec_capacity}
use Rattle.blk_dirty.proofs.dirty.spare_lines.Given as goal

abbrev pub invariant-loop : goal.invariant-loop
invariant-loop l = record {
  count : length l.lines.items ≡ l.counter;
  capacity : l.room ≤ vec_capacity l.lines;
}
