use Rattle.std.proofs.Common.{refl, arith}
use Rattle.blk_dirty.specs.Dirty.{bytes_at}
use Rattle.blk_dirty.proofs.Edited.{made}
use Rattle.blk_dirty.proofs.dirty.Dirty.new.Goals as goal

pub invariant_of-result : goal.invariant_of-result
unfolding bytes_at
invariant_of-result c = made _ _ _ c.in_ok-no_lines.ensures.none (let all = c.in_ok-spare_lines.ensures.count in omega arith) c.in_ok-spare_lines.ensures.count c.in_ok-spare_lines.ensures.capacity
