use Rattle.std.proofs.Common.{◌≡◌, ℕ, ◌+◌, ◌-◌, ◌*◌, ◌/◌, ◌≤◌}
use Rattle.vd_iova.specs.Bits.{NoRun}
use Rattle.vd_iova.proofs.large.find.Given as goal

abbrev pub invariant-loop-next : goal.invariant-loop-next
invariant-loop-next g l = record {
  multiple : (q : ℕ) × (l.next ≡ q * l.step);
  ends : l.next + l.n ≤ l.end + l.step;
  low : l.first ≤ l.next;
  above : NoRun l.words l.step l.n l.next (l.end + 1 - l.n);
  cost : 64 * l.steps ≤ 64 * l.initial.steps + ((l.end - l.n) + 64 * ((l.n + 63) / 64) - l.next);
}

abbrev pub decreases-loop-next : goal.decreases-loop-next
decreases-loop-next g l = l.next
