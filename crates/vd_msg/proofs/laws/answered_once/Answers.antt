use Rattle.vd_msg.proofs.Runs.{answered_once}
use Rattle.vd_msg.proofs.laws.answered_once.Goals as goal

pub returns : goal.returns
returns c = answered_once
