use Rattle.std.proofs.Common.{sym}
use Rattle.vd_msg.specs.Lists.{has_id}
use Rattle.vd_msg.proofs.Found.{nowhere, removed_is, removed_rest, without_first_none}
use Rattle.vd_msg.proofs.lists.take_message.Goals as goal

pub returns-in-Some-clause-found : goal.returns-in-Some-clause-found
returns-in-Some-clause-found c = removed_is (has_id c.args.id) c.args.list.now.items c.args.list.now.len c.in-Some.at c.remove.result c.args.list.now.ok.0 (sym c.in-Some.ensures) c.remove.ensures.variant c.remove.ensures.value

pub returns-in-Some-clause-rest : goal.returns-in-Some-clause-rest
returns-in-Some-clause-rest c = removed_rest (has_id c.args.id) c.args.list.now.items c.remove.new.self.items c.args.list.now.len c.in-Some.at c.remove.result c.args.list.now.ok.0 (sym c.in-Some.ensures) c.remove.ensures.variant c.remove.ensures.items

pub returns-in-None-clause-found : goal.returns-in-None-clause-found
returns-in-None-clause-found c = sym (nowhere (has_id c.args.id) c.args.list.now.items (sym c.in-None.ensures))

pub returns-in-None-clause-rest : goal.returns-in-None-clause-rest
returns-in-None-clause-rest c = sym (without_first_none (has_id c.args.id) c.args.list.now.items (nowhere (has_id c.args.id) c.args.list.now.items (sym c.in-None.ensures)))
