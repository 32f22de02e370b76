use Rattle.std.proofs.Common.{◌∙◌, refl, sym}
use Rattle.vd_msg.specs.Inside.{lists_of}
use Rattle.vd_msg.specs.Lists.{has_ended_id}
use Rattle.vd_msg.proofs.Found.{without_first_none}
use Rattle.vd_msg.proofs.Seen.{stands_inside, stands_with}
use Rattle.vd_msg.proofs.Ends.{take_makes, unknown_makes}
use Rattle.vd_msg.proofs.messages.Messages.take.Goals as goal
use Rattle.vd_msg.proofs.messages.Messages.take.Goals.{in-Some, in-None}

pub returns-clause-stands : goal.returns-clause-stands
returns-clause-stands c = λ start done s.
    let inner = stands_inside c.self.view_is s in
    let not_held = sym c.if-has.ensures in
    let not_waiting = sym c.if-has-2.ensures in
    elim c.match-take_ended.branch [
      | in-Some w ↦ stands_with (lists_of c.self.inside) refl refl w.in-Some.ensures.rest (take_makes start done (lists_of c.self.inside) inner c.args.id w.in-Some.ended not_held not_waiting (sym w.in-Some.ensures.found))
      | in-None w ↦ stands_with (lists_of c.self.inside) refl refl (w.in-None.ensures.rest ∙ without_first_none (has_ended_id c.args.id) c.self.inside.ended.items (sym w.in-None.ensures.found))
          (unknown_makes start done (lists_of c.self.inside) inner c.args.id not_held not_waiting (sym w.in-None.ensures.found))
    ]
