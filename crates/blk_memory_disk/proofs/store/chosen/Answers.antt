use Rattle.blk_memory_disk.proofs.Writes.{has_at}
use Rattle.blk_memory_disk.proofs.store.chosen.Goals as goal

pub returns-then-left-eq1 : goal.returns-then-left-eq1
returns-then-left-eq1 c = has_at c.args.older.now c.loop-o.o-index c.args.sector _ c.loop-o-test.true c.if-o-sector.true
