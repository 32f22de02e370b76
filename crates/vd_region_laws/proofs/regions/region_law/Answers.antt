use Rattle.vd_region_laws.proofs.LiveRegions.{region_law}
use Rattle.vd_region_laws.proofs.regions.region_law.Goals as goal

pub returns : goal.returns
returns c = region_law
