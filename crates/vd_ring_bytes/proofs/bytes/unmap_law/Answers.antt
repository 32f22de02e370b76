use Rattle.vd_ring_bytes.proofs.Unmaps.{unmap_law}
use Rattle.vd_ring_bytes.proofs.bytes.unmap_law.Goals as goal

pub returns : goal.returns
returns c = unmap_law
