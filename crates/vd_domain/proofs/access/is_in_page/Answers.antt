use Rattle.std.proofs.Common.{◌-◌, ◌≤◌, subst}
use Rattle.vd_bounce.specs.Bounce.{IsThere}
use Rattle.vd_domain.proofs.Reaches.{low_page, high_page}
use Rattle.vd_domain.proofs.access.is_in_page.Goals as goal

pub returns-then-at-end : goal.returns-then-at-end
returns-then-at-end c = λ e. low_page c.args.bounce.now c.args.shared.now c.args.at c.args.len (c.is_in_page.ensures.there e) (c.is_in_page.ensures.«end» e)

pub returns-else-at-end : goal.returns-else-at-end
returns-else-at-end c = λ e.
    high_page c.args.bounce.now c.args.shared.now c.args.at c.args.len (subst (λ k. k ≤ c.args.at) c.end_of-end.ensures c.if-at-end.false)
    (subst (λ k. IsThere c.args.shared.now (c.args.at - k) c.args.len) c.end_of-end.ensures (c.is_in_page-else-at-end.ensures.there e))
