use Rattle.vd_laws.proofs.Instances.{isolation_met}
use Rattle.vd_laws.proofs.isolation_law.instances_of_isolation.Goals as goal

pub returns : goal.returns
returns c = isolation_met
