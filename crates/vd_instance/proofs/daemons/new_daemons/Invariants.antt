use Rattle.std.proofs.Common.{◌≡◌, replicate}
use Rattle.vd_instance.specs.Daemons.{new_daemon}
use Rattle.vd_instance.proofs.daemons.new_daemons.Given as goal

abbrev pub invariant-loop-queue : goal.invariant-loop-queue
invariant-loop-queue l = l.daemons.items ≡ replicate l._queue (new_daemon l.name)
