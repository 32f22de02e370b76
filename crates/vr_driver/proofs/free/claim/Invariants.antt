use Rattle.std.proofs.Common.{◌≡◌, drop}
use Rattle.vr_driver.specs.Side.{with_owner}
use Rattle.vr_driver.proofs.free.claim.Given as goal

abbrev pub invariant-loop-i : goal.invariant-loop-i
invariant-loop-i l = with_owner l.owners (drop l.i-index l.indices) l.head ≡ with_owner l.fn.owners l.indices l.head
