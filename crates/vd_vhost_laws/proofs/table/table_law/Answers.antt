use Rattle.vd_vhost_laws.proofs.Law as law
use Rattle.vd_vhost_laws.proofs.table.table_law.Goals as goal

pub returns : goal.returns
returns c = law.table_law
