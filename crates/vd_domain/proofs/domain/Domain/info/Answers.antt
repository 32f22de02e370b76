use Rattle.std.proofs.Common.{arith, ap, sym}
use Rattle.std.specs.Option.{option_map}
use Rattle.vd_domain.specs.Handed.{map_info}
use Rattle.vd_domain.proofs.domain.Domain.info.Goals as goal

pub overflow_mul-result : goal.overflow_mul-result
overflow_mul-result c = let inside = c.in-Some.ensures.inside in omega arith

pub returns-in-Some : goal.returns-in-Some
returns-in-Some c = sym (ap (option_map map_info) c.in-Some.ensures.live)

pub returns-in-None : goal.returns-in-None
returns-in-None c = sym (ap (option_map map_info) c.in-None.ensures.live)
