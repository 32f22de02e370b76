use Rattle.vd_laws.proofs.MemoryLaw.{memory_law}
use Rattle.vd_laws.proofs.memory_law.driver_memory.Goals as goal

pub returns : goal.returns
returns c = memory_law
