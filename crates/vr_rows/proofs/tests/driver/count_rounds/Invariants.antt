use Rattle.std.proofs.Common.{◌≡◌, Some, None}
use Rattle.vd_model.specs.Memory.{bytes_from}
use Rattle.vr_split.specs.Reach.{RingInReach}
use Rattle.vr_rows.proofs.tests.driver.count_rounds.Given as goal

abbrev pub invariant-loop-round : goal.invariant-loop-round
invariant-loop-round l = record {
  place : l.ring.place ≡ l.place;
  in_reach : RingInReach (Some (bytes_from l.mem.base l.mem.bytes.items)) None l.place;
}
