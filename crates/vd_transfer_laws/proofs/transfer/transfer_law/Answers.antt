use Rattle.vd_transfer_laws.proofs.Transfers.{transfer_law}
use Rattle.vd_transfer_laws.proofs.transfer.transfer_law.Goals as goal

pub returns : goal.returns
returns c = transfer_law
