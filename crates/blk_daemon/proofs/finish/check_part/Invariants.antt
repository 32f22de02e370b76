use Rattle.std.proofs.Common.{◌≡◌, ◌+◌, ◌-◌, ◌≤◌, length}
use Rattle.std.specs.Prelude.{IsOk}
use Rattle.std.specs.Option.{ForSome}
use Rattle.vd_model.specs.Memory.{read}
use Rattle.vr_split.specs.Mem.{IsUnchanged}
use Rattle.blk_daemon.proofs.finish.check_part.Given as goal

abbrev pub invariant-loop-left : goal.invariant-loop-left
invariant-loop-left g l = record {
  memory : IsUnchanged g.M.Mem.told g.M.Mem.span g.M.Mem.keeps l.fn.mem l.mem;
  left : l.left ≤ l.part.len;
  page : length l.page ≡ 4096;
  at : ForSome (g.M.Mem.told l.fn.mem) (λ m. l.at ≡ l.part.at + (l.part.len - l.left));
  there : ForSome (g.M.Mem.told l.fn.mem) (λ m. IsOk (read m l.part.at (l.part.len - l.left)));
}

abbrev pub decreases-loop-left : goal.decreases-loop-left
decreases-loop-left g l = l.left
