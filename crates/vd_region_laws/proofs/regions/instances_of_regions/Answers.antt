use Rattle.vd_region_laws.proofs.RegionInstances.{regions_met}
use Rattle.vd_region_laws.proofs.regions.instances_of_regions.Goals as goal

pub returns : goal.returns
returns c = regions_met
