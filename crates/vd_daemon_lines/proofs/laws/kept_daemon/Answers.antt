use Rattle.vd_daemon_lines.proofs.Leaving.{daemon_stays, daemon_ends, daemon_begins}
use Rattle.vd_daemon_lines.proofs.laws.kept_daemon.Goals as goal

pub returns-clause-stays : goal.returns-clause-stays
returns-clause-stays c = daemon_stays

pub returns-clause-ends : goal.returns-clause-ends
returns-clause-ends c = daemon_ends

pub returns-clause-begins : goal.returns-clause-begins
returns-clause-begins c = daemon_begins
