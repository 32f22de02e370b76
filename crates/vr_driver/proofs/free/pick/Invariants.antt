use Rattle.std.proofs.Common.{◌≡◌, ◌≤◌, ◌-◌, ◌++◌, length, take, drop}
use Rattle.vr_driver.specs.Side.{free_from}
use Rattle.vr_driver.proofs.free.pick.Given as goal

abbrev pub invariant-loop-k : goal.invariant-loop-k
invariant-loop-k l = record {
  within : l.n ≤ length l.into;
  picked : take l.n l.into ++ take (length l.into - l.n) (free_from l.k (drop l.k l.owners)) ≡ take (length l.into) (free_from 0 l.owners);
}
