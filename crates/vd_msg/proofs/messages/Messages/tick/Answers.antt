use Rattle.std.proofs.Common.{◌∙◌, ap, subst, ◌++◌, ◌∷◌, map, true}
use Rattle.vd_msg.specs.Inside.{lists_of}
use Rattle.vd_msg.specs.Lists.{timeout_end}
use Rattle.vd_msg.specs.Stands.{Stands}
use Rattle.vd_model.specs.Messages.{Elapsed}
use Rattle.vd_msg.proofs.Due.{both_due}
use Rattle.vd_msg.proofs.Seen.{stands_inside, stands_with}
use Rattle.vd_msg.proofs.Ends.{quiet_stands, broken_stands}
use Rattle.vd_msg.proofs.messages.Messages.tick.Goals as goal

pub returns-in-None : goal.returns-in-None
returns-in-None c = λ start done s.
    subst (λ h. Stands start (Elapsed c.args.now ∷ done) h) c.self.view_is (quiet_stands start done (lists_of c.self.inside) (stands_inside c.self.view_is s) c.args.now
    (both_due c.args.now c.self.inside.held.items c.self.inside.waiting.items _ _ c.earliest_due-least.ensures c.in-None.ensures))

pub returns-in-Some : goal.returns-in-Some
returns-in-Some c = λ start done s.
    stands_with (record (lists_of c.self.inside) { broken = true }) c.fail_all-in-Some.ensures.none c.fail_all.ensures.none
    (c.fail_all-in-Some.ensures.all ∙ ap (λ l. l ++ map (timeout_end c.in-Some.deadline c.args.now) c.self.inside.waiting.items) c.fail_all.ensures.all)
    (broken_stands start done (lists_of c.self.inside) (stands_inside c.self.view_is s) c.args.now c.in-Some.deadline
    (both_due c.args.now c.self.inside.held.items c.self.inside.waiting.items _ _ c.earliest_due-least.ensures c.in-Some.ensures))
