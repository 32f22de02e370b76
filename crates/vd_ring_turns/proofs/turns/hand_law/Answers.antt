use Rattle.vd_ring_turns.proofs.RequestTables.{hand_law}
use Rattle.vd_ring_turns.proofs.turns.hand_law.Goals as goal

pub returns : goal.returns
returns c = hand_law
