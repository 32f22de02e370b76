use Rattle.std.proofs.Common.{refl}
use Rattle.vd_msg.specs.Inside.{lists_of}
use Rattle.vd_msg.proofs.Seen.{stands_inside, stands_with}
use Rattle.vd_msg.proofs.Turns.{lost_stands}
use Rattle.vd_msg.proofs.messages.Messages.lost.Goals as goal

pub returns : goal.returns
returns c = λ start done s. stands_with (lists_of c.self.inside) c.requeue.ensures.waits c.requeue.ensures.none refl (lost_stands start done (lists_of c.self.inside) (stands_inside c.self.view_is s))
