-- the counts of the drivers so far
use Rattle.std.proofs.Common.{◌≡◌, ◌*◌}
use Rattle.sh_workload.specs.Workload.{counts_of, AreAtMost}
use Rattle.sh_workload.proofs.counts.Counts.of.Given as goal

abbrev pub invariant-loop-driver : goal.invariant-loop-driver
invariant-loop-driver l =
    (l.counts ≡ counts_of l.start l.requests l.driver) × AreAtMost (80000 * l.driver) l.counts
