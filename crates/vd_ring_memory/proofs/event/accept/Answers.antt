use Rattle.vd_model.specs.Rings.{next16}
use Rattle.vd_ring_memory.proofs.Accepting.{accepts}
use Rattle.vd_ring_memory.proofs.event.accept.Goals as goal

pub returns-clause-puts : goal.returns-clause-puts
returns-clause-puts c = λ x acts s is.
    let a = c.accepted-ended.ensures in
    accepts x acts _ _ _ _ s a.after (c.sees.ensures x acts s) (λ acts. c.sees-2.ensures x acts) c.args.ring.now.place (next16 c.args.ring.now.position) c.args.event_idx is c.accepted-ended.result a.event a.no_event a.no_event_told
