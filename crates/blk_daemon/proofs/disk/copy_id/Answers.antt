use Rattle.std.proofs.Common.{refl}
use Rattle.blk_daemon.proofs.DiskLemmas.{id_is}
use Rattle.blk_daemon.proofs.disk.copy_id.Goals as goal

pub returns-clause-told : goal.returns-clause-told
returns-clause-told c size = (refl, id_is c.args.name.now c.args.into.now _ _ size c.requires.blank c.min-len.ensures c.copy_from_slice.ensures.after)
