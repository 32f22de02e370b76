use Rattle.std.proofs.Common.{◌≡◌, ◌++◌, take, drop}
use Rattle.std.specs.Prelude.{map}
use Rattle.vr_driver.specs.Side.{other_owner, without_owner}
use Rattle.vr_driver.proofs.free.release.Given as goal

abbrev pub invariant-loop-i : goal.invariant-loop-i
invariant-loop-i l = take l.i l.owners ++ map (other_owner l.head) (drop l.i l.owners) ≡ without_owner l.fn.owners l.head
