use Rattle.vd_laws.proofs.IsolationLaw.{isolation_law}
use Rattle.vd_laws.proofs.isolation_law.isolation.Goals as goal

pub returns : goal.returns
returns c = isolation_law
