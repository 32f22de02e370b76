use Rattle.std.proofs.Common.{sym, ◌∙◌, refl, ap, [], ◌∷◌}
use Rattle.vd_model.specs.declared.answer.Item.TheVariants.{Address}
use Rattle.vd_model.specs.Acts.{state_acts}
use Rattle.vd_model.specs.BusTurns.{shape_of}
use Rattle.vd_model.specs.Turn.{done_with}
use Rattle.vd_model.specs.NodeTurns.{plain_turn}
use Rattle.vd_answers.proofs.Telling.{tells_as, tells_by}
use Rattle.vd_state_lines.proofs.Lines.{does_line, irq_tests, stays, counted_more}
use Rattle.vd_state_lines.proofs.node.node_line.Goals as goal

pub returns-in-Features-clause-line : goal.returns-in-Features-clause-line
returns-in-Features-clause-line g c = λ made acts s. tells_by (ap (plain_turn made acts) c.in-Features.is ∙ ap (λ n. done_with (Address n ∷ []) []) (sym (c.features.ensures (shape_of made) (state_acts acts) s))) refl c.fields.ensures (stays made acts _ s)

pub returns-in-ConfigIrq-clause-line : goal.returns-in-ConfigIrq-clause-line
returns-in-ConfigIrq-clause-line g c = λ made acts s. does_line made acts _ _ c.inject.result _ (ap (plain_turn made acts) c.in-ConfigIrq.is) c.tell.ensures refl (c.inject.ensures.does (shape_of made) (state_acts acts) s)

pub returns-in-VqSetup-clause-line : goal.returns-in-VqSetup-clause-line
returns-in-VqSetup-clause-line g c = λ made acts s. does_line made acts _ _ c.set_max.result _ (ap (plain_turn made acts) c.in-VqSetup.is) c.tell-in-VqSetup.ensures refl (c.set_max.ensures.does (shape_of made) (state_acts acts) s)

pub returns-in-VqSetup-clause-counts : goal.returns-in-VqSetup-clause-counts
returns-in-VqSetup-clause-counts g c = λ most w. counted_more most _ (c.set_max.ensures.counts most w)

pub returns-in-VqInfo-clause-line : goal.returns-in-VqInfo-clause-line
returns-in-VqInfo-clause-line g c = λ made acts s. tells_as (ap (plain_turn made acts) c.in-VqInfo.is) (c.vqinfo.ensures.line made acts s)

pub returns-in-KickFd-clause-line : goal.returns-in-KickFd-clause-line
returns-in-KickFd-clause-line g c = λ made acts s. does_line made acts _ _ c.set_kick_file.result _ (ap (plain_turn made acts) c.in-KickFd.is) c.tell-in-KickFd.ensures refl (c.set_kick_file.ensures.does (shape_of made) (state_acts acts) s)

pub returns-in-Kicks-clause-line : goal.returns-in-Kicks-clause-line
returns-in-Kicks-clause-line g c = λ made acts s. tells_as (ap (plain_turn made acts) c.in-Kicks.is) (c.kicks.ensures.line made acts s)

pub returns-in-Kicks-clause-counts : goal.returns-in-Kicks-clause-counts
returns-in-Kicks-clause-counts g c = λ most w. counted_more most _ (c.kicks.ensures.counts most w)

pub returns-in-Irq-clause-line : goal.returns-in-Irq-clause-line
returns-in-Irq-clause-line g c = λ made acts s. does_line made acts _ _ c.inject-in-Irq.result _ (ap (plain_turn made acts) c.in-Irq.is ∙ irq_tests made (state_acts acts) c.in-Irq.queue) c.tell-in-Irq.ensures refl (c.inject-in-Irq.ensures.does (shape_of made) (state_acts acts) s)
