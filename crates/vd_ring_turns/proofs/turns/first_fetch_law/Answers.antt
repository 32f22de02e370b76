use Rattle.vd_ring_turns.proofs.Positions.{first_fetch_law}
use Rattle.vd_ring_turns.proofs.turns.first_fetch_law.Goals as goal

pub returns : goal.returns
returns c = first_fetch_law
