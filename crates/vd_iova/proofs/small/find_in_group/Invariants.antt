use Rattle.std.proofs.Common.{◌≡◌, ◌+◌, ◌-◌, ◌*◌, ◌≤◌, max}
use Rattle.vd_iova.specs.Bits.{NoRun}
use Rattle.vd_iova.proofs.small.find_in_group.Given as goal

abbrev pub invariant-loop-bit : goal.invariant-loop-bit
invariant-loop-bit g l = record {
  most : l.base + l.«end» ≤ l.to;
  above : NoRun l.words l.step l.n (64 * (l.base + l.«end»)) (64 * l.to);
  cost : l.steps ≤ l.initial.steps + (l.to - max l.from (l.base + l.«end»));
  one : l.n ≡ 1 → l.steps ≤ l.initial.steps;
}

abbrev pub decreases-loop-bit : goal.decreases-loop-bit
decreases-loop-bit g l = l.«end»
