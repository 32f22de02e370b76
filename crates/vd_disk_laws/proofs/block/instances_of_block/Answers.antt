use Rattle.vd_disk_laws.proofs.BlockInstances.{block_met}
use Rattle.vd_disk_laws.proofs.block.instances_of_block.Goals as goal

pub returns : goal.returns
returns c = block_met
