use Rattle.vd_laws.proofs.ReadLaw.{read_law}
use Rattle.vd_laws.proofs.read_law.reads.Goals as goal

pub returns : goal.returns
returns c = λ x h. read_law x h
