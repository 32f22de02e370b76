use Rattle.std.proofs.Common.{◌≡◌, replicate}
use Rattle.vd_state.specs.Kept.{new_queue}
use Rattle.vd_state.proofs.state.State.new.Given as goal

abbrev pub invariant-loop-index : goal.invariant-loop-index
invariant-loop-index l = l.all.items ≡ replicate l._index (new_queue 0)
