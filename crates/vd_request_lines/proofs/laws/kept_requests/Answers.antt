use Rattle.std.proofs.Common.{refl}
use Rattle.vd_request_lines.proofs.Leaving.{requests_stay}
use Rattle.vd_request_lines.proofs.Pendings.{pending_any}
use Rattle.vd_request_lines.proofs.laws.kept_requests.Goals as goal

pub returns-clause-start : goal.returns-clause-start
returns-clause-start c = λ q. record { side = refl; lies = tt; pending = refl; seen = λ id e. refl }

pub returns-clause-stays : goal.returns-clause-stays
returns-clause-stays c = requests_stay

pub returns-clause-pending : goal.returns-clause-pending
returns-clause-pending c = λ passes off acts q kept s. pending_any passes off _ _ s.pending
