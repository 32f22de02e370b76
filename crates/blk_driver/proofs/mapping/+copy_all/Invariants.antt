use Rattle.std.proofs.Common.{length}
use Rattle.blk_driver.proofs.mapping.+copy_all.Given as goal

abbrev pub decreases-copy_all : goal.decreases-copy_all
decreases-copy_all g l = length l.wants.now
