use Rattle.std.proofs.Common.{◌∙◌, refl, sym, ap, [], ◌++◌, ◌∷◌}
use Rattle.vd_msg.specs.Lists.{has_id}
use Rattle.vd_msg.specs.Inside.{lists_of}
use Rattle.vd_msg.proofs.Seen.{stands_inside, stands_with}
use Rattle.vd_msg.proofs.Found.{without_first_none}
use Rattle.vd_msg.proofs.Ends.{answer_makes, refused_answer, refused_makes, holds_id}
use Rattle.vd_msg.proofs.messages.Messages.answer.Goals as goal

pub returns-in-None-clause-says : goal.returns-in-None-clause-says
returns-in-None-clause-says c = λ start done s. sym (refused_answer start done _ (stands_inside c.self.view_is s) c.args.id (sym c.in-None.ensures.found))

pub returns-clause-says : goal.returns-clause-says
returns-clause-says c = λ start done s. sym (holds_id start done _ (stands_inside c.self.view_is s) c.args.id c.args.code c.args.avail c.in-Some.message (sym c.in-Some.ensures.found))

pub returns-in-None-clause-stands : goal.returns-in-None-clause-stands
returns-in-None-clause-stands c = λ start done s.
    let none = sym c.in-None.ensures.found in
    let same = c.in-None.ensures.rest ∙ without_first_none (has_id c.args.id) c.self.inside.held.items none in
    stands_with (lists_of c.self.inside) refl same refl (refused_makes start done (lists_of c.self.inside) (stands_inside c.self.view_is s) c.args.id c.args.code c.args.avail none)

pub returns-clause-stands : goal.returns-clause-stands
returns-clause-stands c = λ start done s.
    stands_with (lists_of c.self.inside) refl c.in-Some.ensures.rest (c.push_back_reserved.ensures.items ∙ ap (λ t. c.self.inside.ended.items ++ record { id = c.args.id; told = t } ∷ []) c.ended_by-told.ensures)
    (answer_makes start done (lists_of c.self.inside) (stands_inside c.self.view_is s) c.args.id c.args.code c.args.avail c.in-Some.message (sym c.in-Some.ensures.found))
