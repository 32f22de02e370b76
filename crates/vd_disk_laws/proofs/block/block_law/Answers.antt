use Rattle.vd_disk_laws.proofs.BlockLaw.{block_law}
use Rattle.vd_disk_laws.proofs.block.block_law.Goals as goal

pub returns : goal.returns
returns c = block_law
