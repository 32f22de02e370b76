use Rattle.std.proofs.Common.{◌≡◌, ◌≤◌, ℕ, None, length, slice_index_or, vec_capacity}
use Rattle.blk_dirty.proofs.dirty.no_lines.Given as goal

abbrev pub invariant-loop : goal.invariant-loop
invariant-loop l = record {
  none : (s : ℕ) → slice_index_or l.lines.items s None ≡ None;
  count : length l.lines.items ≡ l.counter;
}
