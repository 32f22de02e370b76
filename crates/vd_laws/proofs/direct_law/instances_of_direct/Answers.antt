use Rattle.std.proofs.Common.{refl}
use Rattle.vd_num.specs.Number.{power_from, doubled_to}
use Rattle.vd_model.specs.Place.{greatest, place_of}
use Rattle.vd_model.specs.History.{deeds_of}
use Rattle.vd_laws.proofs.direct_law.instances_of_direct.Goals as goal

pub returns-clause-loaded : goal.returns-clause-loaded
unfolding deeds_of place_of greatest power_from doubled_to
returns-clause-loaded c = refl

pub returns-clause-loaded_told : goal.returns-clause-loaded_told
unfolding deeds_of place_of greatest power_from doubled_to
returns-clause-loaded_told c = refl
