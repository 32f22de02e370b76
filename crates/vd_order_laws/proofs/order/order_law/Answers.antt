use Rattle.vd_order_laws.proofs.OrderLaw.{order_law}
use Rattle.vd_order_laws.proofs.order.order_law.Goals as goal

pub returns : goal.returns
returns c = order_law
