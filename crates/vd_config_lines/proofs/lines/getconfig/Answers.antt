use Rattle.std.proofs.Common.{ℕ, List, [], ◌∷◌, Err, refl, ap, subst, OnOk}
use Rattle.vd_model.specs.declared.answer.Answer.TheVariants as answer
use Rattle.vd_model.specs.declared.answer.Item.TheVariants.{Text}
use Rattle.vd_model.specs.BusTurns.{is_outside_config}
use Rattle.vd_answers.proofs.Telling.{may_tell, tells_by, tells_ok}
use Rattle.vd_config_lines.proofs.Spaces.{not_refused, told_turn, refused_turn, stays}
use Rattle.vd_config_lines.proofs.lines.getconfig.Goals as goal

pub returns-in-Ok : goal.returns-in-Ok
returns-in-Ok g c = record {
  line = λ made acts s.
      let inside = not_refused c.in-Ok.bytes (is_outside_config c.args.space.now c.args.offset c.args.len) c.in-Ok.ensures.refused in
      may_tell c.text.result (told_turn made acts c.args.space.now c.args.offset c.args.len s inside) refl
      (subst (λ (bytes : List ℕ). OnOk c.text.result (g.T.Hears.heard c.args.told.now (answer.Done (Text bytes ∷ [])) c.text.new.self)) c.in-Ok.ensures.ok c.text.ensures)
      (stays made acts c.args.space.now s);
}

pub returns-in-Err : goal.returns-in-Err
returns-in-Err g c = record {
  line = λ made acts s.
      let only = c.in-Err.ensures.only in
      tells_ok
      (tells_by (refused_turn made acts c.args.space.now c.args.offset c.args.len s (c.in-Err.ensures.refused.0 (ap Err only))) (ap answer.Err only) c.refused.ensures
      (stays made acts c.args.space.now s));
}
