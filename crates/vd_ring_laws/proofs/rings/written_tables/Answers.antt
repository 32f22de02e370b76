use Rattle.vd_ring_laws.proofs.Tables.{table_law}
use Rattle.vd_ring_laws.proofs.rings.written_tables.Goals as goal

pub returns : goal.returns
returns c = table_law
