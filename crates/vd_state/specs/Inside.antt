-- The state as it is kept.
use Rattle.vd_state.specs.declared.state.State.TheInside.{Inside}
use Rattle.vd_state.specs.Kept.{Kept}

abbrev pub kept_of : Inside → Kept
kept_of s = record {
  status = s.status;
  offered = s.offered;
  features = s.features;
  queues = s.queues.items;
  callback = s.callback;
  interrupts = s.interrupts;
}
