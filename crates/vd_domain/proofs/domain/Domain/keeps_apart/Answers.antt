use Rattle.vd_domain.proofs.Opened.{stands_inside}
use Rattle.vd_domain.proofs.Apart.{are_apart}
use Rattle.vd_domain.proofs.domain.Domain.keeps_apart.Goals as goal

pub returns : goal.returns
returns c = λ x acts m s. are_apart x acts _ m (stands_inside c.self.view_is s) _ _ _ c.self.invariant
