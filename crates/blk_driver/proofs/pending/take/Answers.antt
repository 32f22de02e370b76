use Rattle.std.proofs.Common.{sym}
use Rattle.blk_driver.specs.Driver.{has_head}
use Rattle.blk_driver.proofs.Taking.{nowhere, nothing_taken, taken_is, taken_rest}
use Rattle.blk_driver.proofs.pending.take.Goals as goal

pub returns-in-Some-clause-found : goal.returns-in-Some-clause-found
returns-in-Some-clause-found c = taken_is (has_head c.args.head) c.args.requests.now.items c.in-Some.at c.remove.result (sym c.in-Some.ensures) c.remove.ensures.value

pub returns-in-Some-clause-rest : goal.returns-in-Some-clause-rest
returns-in-Some-clause-rest c = taken_rest (has_head c.args.head) c.args.requests.now.items c.remove.new.self.items c.in-Some.at (sym c.in-Some.ensures) c.remove.ensures.items

pub returns-in-None-clause-found : goal.returns-in-None-clause-found
returns-in-None-clause-found c = sym (nowhere (has_head c.args.head) c.args.requests.now.items (sym c.in-None.ensures))

pub returns-in-None-clause-rest : goal.returns-in-None-clause-rest
returns-in-None-clause-rest c = nothing_taken (has_head c.args.head) c.args.requests.now.items (sym c.in-None.ensures)
