use Rattle.vd_request_laws.proofs.Pending.{nothing_owned, quiet_owned, each_queue, pending_any}
use Rattle.vd_request_laws.proofs.Lines.{device_owns}
use Rattle.vd_request_laws.proofs.QueueLines.{queue_owns}
use Rattle.vd_request_laws.proofs.request_law.Goals as goal

pub returns-clause-start : goal.returns-clause-start
returns-clause-start c = nothing_owned

pub returns-clause-device : goal.returns-clause-device
returns-clause-device c = device_owns

pub returns-clause-queue : goal.returns-clause-queue
returns-clause-queue c = queue_owns

pub returns-clause-quiet : goal.returns-clause-quiet
returns-clause-quiet c = quiet_owned

pub returns-clause-each : goal.returns-clause-each
returns-clause-each c = each_queue

pub returns-clause-pending : goal.returns-clause-pending
returns-clause-pending c = pending_any
