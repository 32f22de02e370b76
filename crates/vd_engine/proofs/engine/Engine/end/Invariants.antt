use Rattle.std.proofs.Common.{◌≡◌, ◌+◌, vec_len}
use Rattle.vd_engine.specs.Machine.{AreHeld, frames_out}
use Rattle.vd_engine.proofs.engine.Engine.end.Given as goal

abbrev pub invariant-loop-named : goal.invariant-loop-named
invariant-loop-named l = record {
  held : AreHeld l.devices.items l.pool;
  back : l.pool.spare + frames_out l.devices.items ≡ l.initial.pool.spare + frames_out l.initial.devices.items;
}

abbrev pub decreases-loop-named : goal.decreases-loop-named
decreases-loop-named l = vec_len l.devices
