use Rattle.vd_ring_laws.proofs.Calms.{calm_law}
use Rattle.vd_ring_laws.proofs.rings.calm_rings.Goals as goal

pub returns : goal.returns
returns c = calm_law
