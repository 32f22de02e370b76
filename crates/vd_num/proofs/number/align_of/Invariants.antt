use Rattle.std.proofs.Common.{◌*◌, ◌-◌, ◌+◌, ◌<◌, ◌≤◌, ◌^◌}
use Rattle.vd_num.proofs.Doubling.{Doubles}
use Rattle.vd_num.proofs.number.align_of.Given as goal

abbrev pub invariant-loop-power : goal.invariant-loop-power
invariant-loop-power l = (0 < l.power) × (l.power < 2 * l.pages) × Doubles l.power l.pages

abbrev pub decreases-loop-power : goal.decreases-loop-power
decreases-loop-power l = l.pages - l.power
