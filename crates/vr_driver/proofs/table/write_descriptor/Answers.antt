use Rattle.std.proofs.Common.{◌≡◌, ◌+◌, ◌*◌, length, ap, arith}
use Rattle.vr_split.specs.ReachLemmas.{Reaches-part, Reaches-ends}
use Rattle.vr_driver.proofs.table.write_descriptor.Goals as goal

pub store_in_reach-requires : goal.store_in_reach-requires
store_in_reach-requires g c =
    let len : length c.encode.result ≡ 16 = ap length c.encode.ensures in
    Reaches-part (g.M.Mem.told c.args.mem.now) (g.M.Mem.span c.args.mem.now) c.args.place.now.desc (16 * c.args.place.now.size) (c.args.place.now.desc + 16 * c.args.index) (length c.encode.result) (omega arith) (omega arith) c.requires.in_reach

pub overflow_add-place : goal.overflow_add-place
overflow_add-place g c =
    let ends = Reaches-ends (g.M.Mem.told c.args.mem.now) (g.M.Mem.span c.args.mem.now) c.args.place.now.desc (16 * c.args.place.now.size) (g.met.M.Mem.told_ends c.args.mem.now) (g.met.M.Mem.span_ends c.args.mem.now) (omega arith) c.requires.in_reach in
    omega (arith, ends)
