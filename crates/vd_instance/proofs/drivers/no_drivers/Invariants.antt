use Rattle.std.proofs.Common.{◌≡◌, replicate, None}
use Rattle.vd_instance.proofs.drivers.no_drivers.Given as goal

abbrev pub invariant-loop-queue : goal.invariant-loop-queue
invariant-loop-queue l = l.drivers.items ≡ replicate l._queue None
