use Rattle.std.proofs.Common.{◌≡◌, ◌+◌, ◌≤◌, length, drop}
use Rattle.vr_driver.specs.Side.{free_from}
use Rattle.vr_driver.proofs.free.count_free.Given as goal

abbrev pub invariant-loop-owner : goal.invariant-loop-owner
invariant-loop-owner l = record {
  small : l.n ≤ l.owner-index;
  counted : l.n + length (free_from l.owner-index (drop l.owner-index l.owners)) ≡ length (free_from 0 l.owners);
}
