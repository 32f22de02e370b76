use Rattle.vd_laws.proofs.DirectLaw.{direct_law}
use Rattle.vd_laws.proofs.direct_law.direct_transfer.Goals as goal

pub returns : goal.returns
returns c = direct_law
