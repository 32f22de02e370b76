-- The small history computes.
use Rattle.std.proofs.Common.{refl}
use Rattle.vd_num.specs.Number.{doubled_to, power_from}
use Rattle.vd_model.specs.Place.{greatest, place_of}
use Rattle.vd_model.specs.History.{deeds_of}
use Rattle.vd_region_laws.specs.RegionInstances.{RegionInstances}

pub regions_met : RegionInstances
unfolding deeds_of place_of greatest power_from doubled_to
regions_met = record { regions = refl; mappings = refl; ring = refl; inside = refl; past = refl; kept = refl }
