use Rattle.std.proofs.Common.{refl}
use Rattle.vd_num.specs.Number.{power_from, doubled_to}
use Rattle.vd_model.specs.Place.{greatest, place_of}
use Rattle.vd_model.specs.History.{deeds_of}
use Rattle.vd_laws.proofs.used_bytes_law.instances_of_used_bytes.Goals as goal

pub returns-clause-peeked : goal.returns-clause-peeked
unfolding deeds_of place_of greatest power_from doubled_to
returns-clause-peeked c = refl

pub returns-clause-peeked_of_a_to : goal.returns-clause-peeked_of_a_to
unfolding deeds_of place_of greatest power_from doubled_to
returns-clause-peeked_of_a_to c = refl
