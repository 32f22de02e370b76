use Rattle.std.proofs.Common.{◌∙◌}
use Rattle.vd_guest.proofs.Slices.{slice_each}
use Rattle.vd_guest.proofs.part.bytes_of.Goals as goal

pub returns : goal.returns
returns c f each = c.cut.ensures ∙ slice_each f c.args.memory.now c.args.offset c.args.len c.requires each
