use Rattle.std.proofs.Common.{refl}
use Rattle.vd_model.specs.Memory.{read}
use Rattle.vd_model.specs.declared.memory.Dir.TheVariants.{To}
use Rattle.vd_laws.specs.MemorySamples.{map_sample, store_sample}
use Rattle.vd_laws.specs.ReadSamples.{area_sample}
use Rattle.vd_laws.proofs.OriginsLemmas.{comes}
use Rattle.vd_laws.proofs.ReadSamples.{loaded, third_alike}
use Rattle.vd_laws.proofs.read_law.instances_of_reading.Goals as goal

pub returns-clause-handed_by : goal.returns-clause-handed_by
returns-clause-handed_by c = comes 1 (map_sample To) (tt, (tt, tt)) 0xf001

pub returns-clause-kept_by : goal.returns-clause-kept_by
returns-clause-kept_by c = comes 1 area_sample (tt, (tt, (tt, (tt, tt)))) 0xf001

pub returns-clause-stored_by : goal.returns-clause-stored_by
returns-clause-stored_by c = comes 1 (store_sample To) (tt, (tt, (tt, tt))) 0xf001

pub returns-clause-read : goal.returns-clause-read
unfolding read
returns-clause-read c = refl

pub returns-clause-outside_a_page : goal.returns-clause-outside_a_page
unfolding read
returns-clause-outside_a_page c = refl

pub returns-clause-within_a_large_page : goal.returns-clause-within_a_large_page
unfolding read
returns-clause-within_a_large_page c = refl

pub returns-clause-loaded : goal.returns-clause-loaded
returns-clause-loaded c = λ third. loaded third

pub returns-clause-third_byte_does_not_show : goal.returns-clause-third_byte_does_not_show
returns-clause-third_byte_does_not_show c = λ a b. third_alike a b
