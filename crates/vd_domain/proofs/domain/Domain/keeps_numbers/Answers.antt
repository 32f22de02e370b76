use Rattle.vd_domain.proofs.Opened.{stands_inside}
use Rattle.vd_domain.proofs.Apart.{are_numbered}
use Rattle.vd_domain.proofs.domain.Domain.keeps_numbers.Goals as goal

pub returns : goal.returns
returns c = λ x acts m s. are_numbered x acts _ m (stands_inside c.self.view_is s) _ _ _ c.self.invariant
