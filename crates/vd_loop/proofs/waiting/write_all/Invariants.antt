use Rattle.std.proofs.Common.{◌≤◌, ◌-◌, length, take}
use Rattle.vd_loop.specs.Written.{Appended}
use Rattle.vd_loop.proofs.waiting.write_all.Given as goal

abbrev pub invariant-loop-at : goal.invariant-loop-at
invariant-loop-at g l = record {
  within : l.at ≤ length l.bytes;
  appended : Appended (g.K.Sink.held l.fn.sink) (g.K.Sink.held l.sink) (take l.at l.bytes);
  faults : g.K.Sink.faults l.fn.sink ≤ g.K.Sink.faults l.sink;
}

abbrev pub decreases-loop-at : goal.decreases-loop-at
decreases-loop-at g l = length l.bytes - l.at
