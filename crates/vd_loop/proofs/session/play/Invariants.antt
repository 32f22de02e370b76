use Rattle.std.proofs.Common.{◌≤◌, ◌+◌, ◌-◌, length}
use Rattle.vd_loop.proofs.Halts.{Playing}
use Rattle.vd_loop.proofs.session.play.Given as goal

abbrev pub invariant-loop-session : goal.invariant-loop-session
invariant-loop-session g l = record {
  playing : Playing g.M.Machine.reads g.M.Machine.alone (λ d r. g.M.Machine.answered l.fn.session.machine l.fn.outside d r l.session.machine l.outside)
      (g.S.Source.left l.fn.source) l.session.waiting l.session.lines l.reader (g.S.Source.left l.source) (g.K.Sink.held l.fn.sink) (g.K.Sink.held l.sink);
  fits : g.M.Machine.fits l.session.lines l.session.machine l.outside;
  room : l.session.lines + (67108864 - l.reader.taken + length l.reader.pending) ≤ 67108864;
  taken : l.reader.taken ≤ 67108864;
  source : g.S.Source.faults l.fn.source ≤ g.S.Source.faults l.source;
  sink : g.K.Sink.faults l.fn.sink ≤ g.K.Sink.faults l.sink;
}

abbrev pub decreases-loop-session : goal.decreases-loop-session
decreases-loop-session g l = 67108864 - l.reader.taken + length l.reader.pending
