use Rattle.std.proofs.Common.{length}
use Rattle.vd_domain.proofs.domain.batch.+book_all.Given as goal

abbrev pub decreases-book_all : goal.decreases-book_all
decreases-book_all l = length l.wants.now
