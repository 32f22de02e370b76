use Rattle.vd_request_acts.proofs.Alike.{alike_put, alike_queue, stands_alike}
use Rattle.vd_request_acts.proofs.Mapped.{alike_maps}
use Rattle.vd_request_acts.proofs.Placed.{placed_direct, placed_listed}
use Rattle.vd_request_acts.proofs.Back.{back_front, back_filled, back_both, back_both_filled}
use Rattle.vd_request_acts.proofs.acts.request_acts.Goals as goal

pub returns-clause-alike : goal.returns-clause-alike
returns-clause-alike c = stands_alike

pub returns-clause-stay : goal.returns-clause-stay
returns-clause-stay c = λ g more acts e. ((λ ms. alike_maps g more acts e ms), (λ at bytes. alike_put g more acts at bytes e), (λ act. alike_queue g more acts act e))

pub returns-clause-direct : goal.returns-clause-direct
returns-clause-direct c = placed_direct

pub returns-clause-listed : goal.returns-clause-listed
returns-clause-listed c = placed_listed

pub returns-clause-one_back : goal.returns-clause-one_back
returns-clause-one_back c = λ done front. ((λ x k m s inside. back_front x done front k m inside s), (λ x k m s inside. back_filled x done front k m inside s))

pub returns-clause-both_back : goal.returns-clause-both_back
returns-clause-both_back c = λ done front len. ((λ x k m s inside. back_both x done front k m inside len s), (λ x k m s inside. back_both_filled x done front k m inside len s))
