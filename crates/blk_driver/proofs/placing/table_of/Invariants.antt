use Rattle.std.proofs.Common.{◌≡◌, ◌*◌, ◌++◌, take, drop}
use Rattle.vd_model.specs.RingTurns.{table_bytes}
use Rattle.blk_driver.proofs.placing.table_of.Given as goal

abbrev pub invariant-loop-k : goal.invariant-loop-k
invariant-loop-k l = take (16 * l.k) l.bytes ++ table_bytes l.k (drop l.k l.parts) ≡ table_bytes 0 l.parts
