use Rattle.blk_driver.proofs.Numbers.{is_low, is_lower}
use Rattle.blk_driver.proofs.pending.Pending.has_map.Goals as goal

pub returns-then-self-number : goal.returns-then-self-number
returns-then-self-number c = is_low c.args.number c.args.self.now.first_map c.args.self.now.end_map c.if-self-number.true

pub returns-else-self-number : goal.returns-else-self-number
returns-else-self-number c = is_lower c.args.number c.args.self.now.first_map c.args.self.now.end_map c.if-self-number.false
