use Rattle.std.proofs.Common.{ℕ, ◌<◌, ◌≤◌, ◌-◌, None, length}
use Rattle.std.specs.Prelude.{IsSome, slice_index_or}
use Rattle.sh_device.proofs.access.first_absent.Given as goal

abbrev pub invariant-loop-k : goal.invariant-loop-k
invariant-loop-k l = record {
  within : l.k ≤ length l.found;
  present : (i : ℕ) → i < l.k → IsSome (slice_index_or l.found i None);
}

abbrev pub decreases-loop-k : goal.decreases-loop-k
decreases-loop-k l = length l.found - l.k
