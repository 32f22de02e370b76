use Rattle.vd_laws.proofs.UsedBytesLaw.{used_bytes_law}
use Rattle.vd_laws.proofs.used_bytes_law.used_bytes.Goals as goal

pub returns : goal.returns
returns c = used_bytes_law
