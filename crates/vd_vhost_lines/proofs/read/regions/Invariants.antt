use Rattle.vd_vhost_lines.proofs.Regions.{RegionsSoFar}
use Rattle.vd_vhost_lines.proofs.read.regions.Given as goal

abbrev pub invariant-loop : goal.invariant-loop
invariant-loop l = RegionsSoFar l.regions l.words l.fn.words l.counter
