use Rattle.std.proofs.Common.{length, Err}
use Rattle.vr_split.specs.ReachLemmas.{load-there}
use Rattle.vr_split.proofs.reach.load_in_reach.Goals as goal

pub unreachable-requires : goal.unreachable-requires
unreachable-requires g c =
    let ok = load-there (g.M.Mem.told c.args.mem.now) (g.M.Mem.span c.args.mem.now) c.args.at (length c.args.out.now) c.load.new.out (Err c.in-Err.field-0) c.in-Err.ensures.loads c.in-Err.ensures.spanned c.requires in
    cc
