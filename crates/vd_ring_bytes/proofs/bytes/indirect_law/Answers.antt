use Rattle.vd_ring_bytes.proofs.TableTraces.{indirect_law}
use Rattle.vd_ring_bytes.proofs.bytes.indirect_law.Goals as goal

pub returns : goal.returns
returns c = indirect_law
