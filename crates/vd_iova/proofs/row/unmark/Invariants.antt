use Rattle.std.proofs.Common.{◌≡◌, ℕ, ◌-◌, ◌≤◌, length, if◌then◌else◌}
use Rattle.vd_num.specs.Number.{is_within}
use Rattle.vd_iova.specs.Bits.{bit}
use Rattle.vd_iova.proofs.row.unmark.Given as goal

abbrev pub invariant-loop-done : goal.invariant-loop-done
invariant-loop-done g l = record {
  within : l.done ≤ l.n;
  len : length l.words ≡ length l.initial.words;
  bits : (p : ℕ) → bit l.words p ≡ (if is_within l.start l.done p then 0 else bit l.initial.words p);
}

abbrev pub decreases-loop-done : goal.decreases-loop-done
decreases-loop-done g l = l.n - l.done
