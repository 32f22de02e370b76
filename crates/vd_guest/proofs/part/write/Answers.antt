use Rattle.std.proofs.Common.{sym, ◌∙◌, get_or}
use Rattle.vd_guest.proofs.Walks.{written_over}
use Rattle.vd_guest.proofs.part.write.Goals as goal

pub returns : goal.returns
returns c o = c.overwrite.ensures o ∙ sym (written_over c.args.offset o c.args.bytes.now (get_or c.args.memory.now o 0))
