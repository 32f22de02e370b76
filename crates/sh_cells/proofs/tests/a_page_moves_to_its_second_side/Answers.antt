use Rattle.std.proofs.Common.{arith, refl}
use Rattle.sh_cells.proofs.Callers.{just_drew, just_put, just_read}
use Rattle.sh_cells.proofs.tests.a_page_moves_to_its_second_side.Goals as goal

pub put-requires-clause-drawn : goal.put-requires-clause-drawn
put-requires-clause-drawn g c = just_drew _ _ _ _ _ c.draw-stamp.ensures.gained (refl, omega arith, omega arith, refl)

pub copy-requires-clause-loaded : goal.copy-requires-clause-loaded
copy-requires-clause-loaded g c =
    just_read _ _ _ _ _ c.load_side-found.ensures.gained (c.load_side-found.ensures.own _ (just_put _ _ _ c.put.ensures.gained))
