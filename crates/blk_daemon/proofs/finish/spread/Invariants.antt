use Rattle.std.proofs.Common.{◌≡◌, take, drop, None}
use Rattle.std.specs.Option.{ForSome}
use Rattle.vd_model.specs.Trace.{writable_len}
use Rattle.vr_split.specs.Reach.{KeepsReach}
use Rattle.blk_daemon.specs.Finished.{first_unwritable}
use Rattle.blk_daemon.proofs.SpreadLemmas.{IsSpread}
use Rattle.blk_daemon.proofs.finish.spread.Given as goal

abbrev pub invariant-loop-part : goal.invariant-loop-part
invariant-loop-part g l = record {
  memory : KeepsReach g.M.Mem.told g.M.Mem.span g.M.Mem.keeps l.fn.mem l.mem;
  at : l.at ≡ writable_len (take l.part-index l.parts);
  spread : ForSome (g.M.Mem.told l.fn.mem) (λ m. first_unwritable m l.parts ≡ None
      → IsSpread m l.parts l.bytes (drop l.part-index l.parts) (drop l.at l.bytes) (g.M.Mem.told l.mem));
}
