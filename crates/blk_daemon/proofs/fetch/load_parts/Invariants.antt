use Rattle.std.proofs.Common.{◌≡◌, length, take, Ok}
use Rattle.std.specs.Option.{ForSome}
use Rattle.vd_model.specs.Trace.{readable_len}
use Rattle.vd_model.specs.DaemonTurns.{readable_bytes}
use Rattle.vr_split.specs.Mem.{IsUnchanged}
use Rattle.blk_daemon.proofs.fetch.load_parts.Given as goal

abbrev pub invariant-loop-part : goal.invariant-loop-part
invariant-loop-part g l = record {
  memory : IsUnchanged g.M.Mem.told g.M.Mem.span g.M.Mem.keeps l.fn.mem l.mem;
  at : l.at ≡ readable_len (take l.part-index l.parts);
  len : length l.bytes ≡ readable_len l.parts;
  reads : ForSome (g.M.Mem.told l.fn.mem) (λ m. readable_bytes m (take l.part-index l.parts) ≡ Ok (take l.at l.bytes));
}
