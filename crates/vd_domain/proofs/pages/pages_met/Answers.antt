use Rattle.vd_domain.proofs.Spans.{met}
use Rattle.vd_domain.proofs.pages.pages_met.Goals as goal

pub returns-clause-met : goal.returns-clause-met
returns-clause-met c = λ page. met c.args.per_page c.args.slot c.args.slots page c.requires.size c.requires.some
