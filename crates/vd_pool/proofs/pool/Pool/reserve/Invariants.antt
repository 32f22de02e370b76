use Rattle.std.proofs.Common.{◌-◌}
use Rattle.vd_pool.specs.Memory.{Grows}
use Rattle.vd_pool.proofs.pool.Pool.reserve.Given as goal

abbrev pub invariant-loop-self : goal.invariant-loop-self
invariant-loop-self l = Grows l.initial.self l.self

abbrev pub decreases-loop-self : goal.decreases-loop-self
decreases-loop-self l = l.n - l.self.spare
