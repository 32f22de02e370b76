use Rattle.std.proofs.Common.{◌+◌, ◌-◌, ◌*◌, ◌≤◌}
use Rattle.vd_iova.specs.Bits.{IsClear}
use Rattle.vd_iova.proofs.row.words_clear.Given as goal

abbrev pub invariant-loop-i : goal.invariant-loop-i
invariant-loop-i g l = record {
  clear : IsClear l.words (64 * l.at) (64 * (l.i - l.at));
  cost : l.steps ≤ l.initial.steps + (l.i - l.at);
}
