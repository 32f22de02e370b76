use Rattle.vd_laws.proofs.AllLaws.{all_laws}
use Rattle.vd_laws.proofs.all_laws.laws.Goals as goal

pub returns : goal.returns
returns c = all_laws
