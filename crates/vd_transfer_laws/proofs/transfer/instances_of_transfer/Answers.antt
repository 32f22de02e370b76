use Rattle.vd_transfer_laws.proofs.TransferInstances.{transfer_met}
use Rattle.vd_transfer_laws.proofs.transfer.instances_of_transfer.Goals as goal

pub returns : goal.returns
returns c = transfer_met
