use Rattle.vd_ring_laws.proofs.Fairs.{chain_law}
use Rattle.vd_ring_laws.proofs.rings.chains_out.Goals as goal

pub returns : goal.returns
returns c = chain_law
