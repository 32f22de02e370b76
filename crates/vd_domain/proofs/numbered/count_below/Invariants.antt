use Rattle.std.proofs.Common.{◌-◌, ◌≤◌, length}
use Rattle.vd_domain.proofs.Rising.{count_below}
use Rattle.vd_domain.proofs.numbered.count_below.Given as goal

abbrev pub invariant-loop-low : goal.invariant-loop-low
invariant-loop-low g l = record {
  least : l.low ≤ count_below l.fn.number l.fn.entries;
  most : count_below l.fn.number l.fn.entries ≤ l.high;
  end : l.high ≤ length l.fn.entries;
}

abbrev pub decreases-loop-low : goal.decreases-loop-low
decreases-loop-low g l = l.high - l.low
