use Rattle.vd_vhost_laws.proofs.Computed as computed
use Rattle.vd_vhost_laws.proofs.table.instances_of_the_table.Goals as goal

pub returns : goal.returns
returns c = computed.table_met
