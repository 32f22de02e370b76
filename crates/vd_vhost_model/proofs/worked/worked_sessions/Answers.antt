use Rattle.vd_vhost_model.proofs.Computed as computed
use Rattle.vd_vhost_model.proofs.worked.worked_sessions.Goals as goal

pub returns-clause-permissions : goal.returns-clause-permissions
returns-clause-permissions c = computed.table_with_permissions

pub returns-clause-timeout : goal.returns-clause-timeout
returns-clause-timeout c = computed.timeout_breaks
