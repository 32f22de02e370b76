use Rattle.std.proofs.Common.{ap, ◌∙◌, reverse}
use Rattle.vd_model.specs.Live as acts
use Rattle.sh_parts.specs.Legal.{domain_acts}
use Rattle.sh_parts.specs.Journals.{StateView}
use Rattle.sh_parts.proofs.domain.DomainState.in_use.Goals as goal

pub returns : goal.returns
returns g c =
    let i = c.self.invariant in
    c.in_use.ensures g.N.Naming.numbers _ i.2
    ∙ ap (λ (v : StateView). acts.is_in_use 1 (domain_acts g.N.Naming.numbers (reverse v.entries)) c.args.page) c.self.view_is
