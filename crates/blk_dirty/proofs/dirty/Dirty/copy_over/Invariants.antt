use Rattle.std.proofs.Common.{◌≡◌, ◌++◌, ◌*◌, drop}
use Rattle.blk_disk.specs.Contents.{joined}
use Rattle.blk_dirty.specs.Dirty.{bytes_at, over, piece}
use Rattle.blk_dirty.proofs.dirty.Dirty.copy_over.Given as goal

abbrev pub invariant-loop-i : goal.invariant-loop-i
invariant-loop-i l = l.into ≡ joined (over (bytes_at l.self) (piece l.first l.fn.into)) l.first l.i ++ drop (512 * l.i) l.fn.into
