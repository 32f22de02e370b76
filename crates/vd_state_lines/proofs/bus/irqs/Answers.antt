use Rattle.std.proofs.Common.{refl, subst, Ok, Err}
use Rattle.vd_model.specs.Acts.{state_acts}
use Rattle.vd_model.specs.BusTurns.{shape_of}
use Rattle.vd_state.specs.Stands.{TakesInterrupts}
use Rattle.vd_answers.proofs.Telling.{tells_by}
use Rattle.vd_state_lines.proofs.Lines.{took_irqs, no_irqs, stays}
use Rattle.vd_state_lines.proofs.bus.irqs.Goals as goal

pub returns-in-Ok-clause-line : goal.returns-in-Ok-clause-line
returns-in-Ok-clause-line g c = λ made acts s.
    let t = subst (λ on. TakesInterrupts (shape_of made) (state_acts acts) on (Ok c.in-Ok.count) c.take_irqs.new.self) c.index_of.ensures (c.in-Ok.ensures.takes (shape_of made) (state_acts acts) s) in
    tells_by (took_irqs made acts c.args.on c.in-Ok.count _ t) refl c.fields.ensures (record { only = refl; stands = t.2 })

pub returns-in-Err-clause-line : goal.returns-in-Err-clause-line
returns-in-Err-clause-line g c = λ made acts s.
    let t = subst (λ on. TakesInterrupts (shape_of made) (state_acts acts) on (Err c.in-Err.errno) c.take_irqs.new.self) c.index_of.ensures (c.in-Err.ensures.takes (shape_of made) (state_acts acts) s) in
    tells_by (no_irqs made acts c.args.on c.in-Err.errno _ t) refl c.refused.ensures (stays made acts _ t.2)
