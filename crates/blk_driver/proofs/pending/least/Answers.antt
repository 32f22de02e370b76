use Rattle.std.proofs.Common.{sym, ◌∙◌}
use Rattle.blk_driver.proofs.Taking.{least_none}
use Rattle.blk_driver.proofs.pending.least.Goals as goal

pub returns-clause-none : goal.returns-clause-none
returns-clause-none c =
    let found = least_none c.args.requests.now in (λ e. found.0 (sym c.least_of.ensures ∙ e), λ e. c.least_of.ensures ∙ found.1 e)
