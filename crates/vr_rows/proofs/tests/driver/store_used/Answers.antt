use Rattle.std.proofs.Common.{◌≡◌, ◌+◌, ◌*◌, ◌%◌, ◌^◌, refl, length, Some, None, arith}
use Rattle.vd_model.specs.Memory.{bytes_from}
use Rattle.vr_split.specs.MemLemmas.{tells, tells_nothing, IsFinite-bytes_from}
use Rattle.vr_split.specs.ReachLemmas.{field_reached, ring_still}
use Rattle.vr_rows.proofs.tests.driver.store_used.Goals as goal

pub store_in_reach-requires : goal.store_in_reach-requires
store_in_reach-requires c =
    field_reached (Some (bytes_from c.args.mem.now.base c.args.mem.now.bytes.items)) None c.args.place.now.device (6 + 8 * c.args.place.now.size) c.args.offset (length c.args.bytes.now) ((c.args.place.now.device + c.args.offset) % 2 ^ 64) (tells _ _ (IsFinite-bytes_from c.args.mem.now.base c.args.mem.now.bytes.items c.args.mem.now.within)) (tells_nothing _) c.requires.some c.requires.within refl c.requires.in_reach.device

pub returns : goal.returns
returns c = ring_still c.store_in_reach.ensures.memory c.args.place.now c.requires.in_reach
