use Rattle.vd_ring_laws.proofs.CalmInstances.{calm_met}
use Rattle.vd_ring_laws.proofs.rings.instances_of_calm.Goals as goal

pub returns : goal.returns
returns c = calm_met
