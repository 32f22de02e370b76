use Rattle.std.proofs.Common.{length}
use Rattle.vd_driver_port.proofs.theirs.+are_theirs.Given as goal

abbrev pub decreases-are_theirs : goal.decreases-are_theirs
decreases-are_theirs l = length l.wants.now
