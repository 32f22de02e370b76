use Rattle.std.proofs.Common.{sym}
use Rattle.vd_guest.proofs.Holders.{holds_it, lies_within}
use Rattle.vd_guest.proofs.part.holder.Goals as goal

pub returns-clause-holds : goal.returns-clause-holds
returns-clause-holds c = holds_it c.args.size c.args.at c.args.regions.now c.requires c.first.result (sym c.first.ensures)

pub returns-clause-within : goal.returns-clause-within
returns-clause-within c = lies_within c.args.size c.args.at c.args.regions.now c.requires c.first.result (sym c.first.ensures)
