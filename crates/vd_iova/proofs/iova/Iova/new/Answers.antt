use Rattle.vd_iova.proofs.Pieces.{zero_bits}
use Rattle.vd_iova.proofs.iova.Iova.new.Goals as goal

pub mark_outside-requires-clause-clear : goal.mark_outside-requires-clause-clear
mark_outside-requires-clause-clear c = zero_bits c.in_ok-words.words c.in_ok-words.ensures.zeros

pub mark_outside-requires-clause-clear_too : goal.mark_outside-requires-clause-clear_too
mark_outside-requires-clause-clear_too c = zero_bits c.in_ok-full.full c.in_ok-full.ensures.zeros
