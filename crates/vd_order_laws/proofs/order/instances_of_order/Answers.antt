use Rattle.vd_order_laws.proofs.OrderInstances.{order_met}
use Rattle.vd_order_laws.proofs.order.instances_of_order.Goals as goal

pub returns : goal.returns
returns c = order_met
