use Rattle.vd_order_laws.proofs.OrderLaw.{order_law}
use Rattle.vd_disk_laws.proofs.BlockLaw.{block_law}
use Rattle.vd_disk_laws.proofs.rings.ring_laws.Goals as goal

pub returns : goal.returns
returns c = λ x h. record { order = order_law x h; block = block_law x h }
