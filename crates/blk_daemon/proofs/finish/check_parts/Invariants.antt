use Rattle.std.proofs.Common.{◌≡◌, drop}
use Rattle.std.specs.Option.{ForSome}
use Rattle.vr_split.specs.Mem.{IsUnchanged}
use Rattle.blk_daemon.specs.Finished.{first_unwritable}
use Rattle.blk_daemon.proofs.finish.check_parts.Given as goal

abbrev pub invariant-loop-part : goal.invariant-loop-part
invariant-loop-part g l = record {
  memory : IsUnchanged g.M.Mem.told g.M.Mem.span g.M.Mem.keeps l.fn.mem l.mem;
  rest : ForSome (g.M.Mem.told l.fn.mem) (λ m. first_unwritable m l.parts ≡ first_unwritable m (drop l.part-index l.parts));
}
