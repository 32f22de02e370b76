use Rattle.std.proofs.Common.{arith, refl}
use Rattle.sh_cells.proofs.Callers.{just_drew}
use Rattle.sh_cells.proofs.tests.a_word_goes_from_a_driver_to_a_daemon.Goals as goal

pub put-requires-clause-drawn : goal.put-requires-clause-drawn
put-requires-clause-drawn g c = just_drew _ _ _ _ _ c.draw-stamp.ensures.gained (refl, omega arith, omega arith, refl)
