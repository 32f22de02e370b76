use Rattle.std.proofs.Common.{◌≡◌, ◌+◌, ◌-◌, ◌*◌, ◌≤◌, ◌/◌, length, max, min}
use Rattle.vd_iova.specs.Bits.{NoRun}
use Rattle.vd_iova.proofs.small.find.Given as goal

abbrev pub invariant-loop-group : goal.invariant-loop-group
invariant-loop-group g l = record {
  low : min (l.low / 64) l.last ≤ l.group;
  above : NoRun l.words l.step l.n (4096 * l.group) (64 * length l.words);
  cost : l.steps ≤ l.initial.steps + ((l.last - l.group) + (l.high - max l.low (64 * l.group)));
  one : l.n ≡ 1 → l.steps ≤ l.initial.steps + (l.last - l.group);
}
