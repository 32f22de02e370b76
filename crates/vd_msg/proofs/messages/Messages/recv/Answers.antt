use Rattle.std.proofs.Common.{refl, sym, ap}
use Rattle.std.specs.Option.{option_map}
use Rattle.vd_msg.specs.Inside.{lists_of}
use Rattle.vd_msg.specs.Stands.{sent_of}
use Rattle.vd_msg.proofs.Seen.{stands_inside, stands_with}
use Rattle.vd_msg.proofs.Turns.{nil_from_length, next_message_none, next_message_some, recv_makes, recv_nothing}
use Rattle.vd_msg.proofs.messages.Messages.recv.Goals as goal

pub returns-in-None-clause-says : goal.returns-in-None-clause-says
returns-in-None-clause-says c = λ start done s. ap (option_map sent_of) (sym (next_message_none start done (lists_of c.self.inside) (stands_inside c.self.view_is s)
    (nil_from_length c.self.inside.waiting.items _ c.self.inside.waiting.ok.0 c.in-None.ensures.cases.0)))

pub returns-in-None-clause-stands : goal.returns-in-None-clause-stands
returns-in-None-clause-stands c = λ start done s.
    stands_with (lists_of c.self.inside) (sym c.in-None.ensures.items) refl refl
    (recv_nothing start done (lists_of c.self.inside) (stands_inside c.self.view_is s)
    (nil_from_length c.self.inside.waiting.items _ c.self.inside.waiting.ok.0 c.in-None.ensures.cases.0))

pub returns-clause-says : goal.returns-clause-says
returns-clause-says c = λ start done s. ap (option_map sent_of) (sym (next_message_some start done (lists_of c.self.inside) (stands_inside c.self.view_is s) c.in-Some.message c.pop_front.new.self.items c.in-Some.ensures.items))

pub returns-clause-stands : goal.returns-clause-stands
returns-clause-stands c = λ start done s.
    stands_with (lists_of c.self.inside) refl c.push_back_reserved.ensures.items refl
    (recv_makes start done (lists_of c.self.inside) (stands_inside c.self.view_is s) c.in-Some.message c.pop_front.new.self.items c.in-Some.ensures.items)
