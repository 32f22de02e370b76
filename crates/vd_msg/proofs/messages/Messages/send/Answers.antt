use Rattle.std.proofs.Common.{◌≡◌, ◌∙◌, ◌<◌, ◌+◌, ◌++◌, ◌∷◌, [], List, sym, ap, arith, false}
use Rattle.vd_model.specs.declared.message.Message.{Message}
use Rattle.vd_msg.specs.Inside.{lists_of}
use Rattle.vd_msg.proofs.Seen.{stands_inside, stands_with}
use Rattle.vd_msg.proofs.Turns.{send_makes}
use Rattle.vd_msg.proofs.messages.Messages.send.Goals as goal

pub returns-clause-says : goal.returns-clause-says
returns-clause-says c = λ start done s.
    let inner = stands_inside c.self.view_is s in
    let fine : c.self.inside.broken ≡ false = c.if-self.false in
    let low : c.self.inside.next < 4294967295 = omega arith in
    let next_is = inner.next in
    let sent : Message = record { id = c.self.inside.next; body = c.args.body; moment = c.args.now; timeout = c.self.inside.timeout } in (
      sym inner.broken ∙ fine,
      omega arith,
      next_is,
      stands_with (record (lists_of c.self.inside) { next = c.self.inside.next + 1 })
          (c.push_back_reserved.ensures.items ∙ ap (λ (l : List Message). l ++ sent ∷ []) c.in_ok-self-inside.ensures.items.0) c.in_ok-self-inside.ensures.items.1 c.in_ok-self-inside.ensures.items.2
          (send_makes start done (lists_of c.self.inside) inner c.args.body c.args.now fine low),
    )
