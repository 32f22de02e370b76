use Rattle.vd_ring_laws.proofs.Traces.{trace_law}
use Rattle.vd_ring_laws.proofs.rings.written_chains.Goals as goal

pub returns : goal.returns
returns c = trace_law
