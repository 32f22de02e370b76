use Rattle.std.proofs.Common.{◌≡◌, ℕ, ◌+◌, ◌-◌, ◌/◌, ◌%◌, ◌≤◌, ◌<◌, length, if◌then◌else◌}
use Rattle.vd_num.specs.Number.{is_within}
use Rattle.vd_iova.specs.Bits.{bit}
use Rattle.vd_iova.proofs.row.mark.Given as goal

abbrev pub invariant-loop-done : goal.invariant-loop-done
invariant-loop-done g l = record {
  within : l.done ≤ l.n;
  cost : l.steps ≤ l.initial.steps + (l.start % 64 + l.done + 63) / 64;
  whole : l.done < l.n → l.steps ≤ l.initial.steps + (l.start % 64 + l.done) / 64;
  len : length l.words ≡ length l.initial.words;
  bits : (p : ℕ) → bit l.words p ≡ (if is_within l.start l.done p then 1 else bit l.initial.words p);
}

abbrev pub decreases-loop-done : goal.decreases-loop-done
decreases-loop-done g l = l.n - l.done
