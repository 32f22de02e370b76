use Rattle.std.proofs.Common.{sym, ◌∙◌, refl, ap, [], ◌∷◌}
use Rattle.vd_num.specs.declared.errno.Errno.TheVariants.{Inval}
use Rattle.vd_model.specs.Acts.{State, state_acts}
use Rattle.vd_model.specs.State.{Num_set}
use Rattle.vd_model.specs.BusTurns.{shape_of, vqnum_turn}
use Rattle.vd_model.specs.Turn.{done_with}
use Rattle.vd_state_lines.proofs.Lines.{does_line, both_tests, counted_more}
use Rattle.vd_state_lines.proofs.bus.vqnum.Goals as goal

pub returns-in-Ok-clause-line : goal.returns-in-Ok-clause-line
returns-in-Ok-clause-line g c = λ made acts s.
    does_line made acts _ _ c.set_num.result _
    (ap (λ n. vqnum_turn made (state_acts acts) c.args.queue n) (sym c.in-Ok.ensures.1) ∙ both_tests _ _ Inval (done_with [] (State (Num_set c.args.queue c.in-Ok.num) ∷ [])))
    c.tell.ensures refl (c.set_num.ensures.does (shape_of made) (state_acts acts) s)

pub returns-in-Err-clause-counts : goal.returns-in-Err-clause-counts
returns-in-Err-clause-counts g c = λ most w. counted_more most _ w
