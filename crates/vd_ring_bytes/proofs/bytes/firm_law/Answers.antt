use Rattle.vd_ring_bytes.proofs.FirmBytes.{firm_law}
use Rattle.vd_ring_bytes.proofs.bytes.firm_law.Goals as goal

pub returns : goal.returns
returns c = firm_law
