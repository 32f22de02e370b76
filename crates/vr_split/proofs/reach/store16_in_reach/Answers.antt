use Rattle.std.proofs.Common.{Ok, Err}
use Rattle.byteorder.specs.Endian.{little_bytes}
use Rattle.vr_split.specs.ReachLemmas.{store-there, reach-stored}
use Rattle.vr_split.proofs.reach.store16_in_reach.Goals as goal

pub unreachable-requires : goal.unreachable-requires
unreachable-requires g c =
    let ok = store-there (g.M.Mem.told c.args.mem.now) (g.M.Mem.told c.store16.new.self) (g.M.Mem.span c.args.mem.now) c.args.at (little_bytes 2 c.args.value) (Err c.in-Err.field-0) c.in-Err.ensures.stores c.in-Err.ensures.spanned c.requires in
    cc

pub returns-clause-stored : goal.returns-clause-stored
returns-clause-stored g c m told = (c.in-Ok.ensures.stores m told).1

pub returns-clause-memory : goal.returns-clause-memory
returns-clause-memory g c = record {
  reach = reach-stored (g.M.Mem.told c.args.mem.now) (g.M.Mem.told c.store16.new.self) (g.M.Mem.span c.args.mem.now) (g.M.Mem.span c.store16.new.self) c.args.at (little_bytes 2 c.args.value) (Ok c.in-Ok.field-0) c.in-Ok.ensures.stores c.in-Ok.ensures.span;
  same_span = c.in-Ok.ensures.span;
  kept = c.in-Ok.ensures.keeps;
}
