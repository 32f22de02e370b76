use Rattle.vd_ring_laws.proofs.Fairs.{position_law}
use Rattle.vd_ring_laws.proofs.rings.positions.Goals as goal

pub returns : goal.returns
returns c = position_law
