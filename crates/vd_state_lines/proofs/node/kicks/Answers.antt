use Rattle.std.proofs.Common.{refl, subst, Ok, Some, None}
use Rattle.vd_model.specs.Acts.{state_acts}
use Rattle.vd_model.specs.BusTurns.{shape_of}
use Rattle.vd_state.specs.Stands.{TakesKicks}
use Rattle.vd_answers.proofs.Telling.{tells_by}
use Rattle.vd_state_lines.proofs.Lines.{took_kicks, no_kicks, stays}
use Rattle.vd_state_lines.proofs.node.kicks.Goals as goal

pub returns-in-Ok-Some-clause-line : goal.returns-in-Ok-Some-clause-line
returns-in-Ok-Some-clause-line g c = λ made acts s.
    let t = subst (λ o. TakesKicks (shape_of made) (state_acts acts) c.args.queue (Ok o) c.take_kicks.new.self) c.in-Ok-Some.field-0-is (c.in-Ok-Some.ensures.takes (shape_of made) (state_acts acts) s) in
    tells_by (took_kicks made acts c.args.queue (Some c.in-Ok-Some.count) c.take_kicks.new.self t) refl c.fields.ensures (record { only = refl; stands = t.2 })

pub returns-in-Ok-None-clause-line : goal.returns-in-Ok-None-clause-line
returns-in-Ok-None-clause-line g c = λ made acts s.
    let t = subst (λ o. TakesKicks (shape_of made) (state_acts acts) c.args.queue (Ok o) c.take_kicks.new.self) c.in-Ok-None.field-0-is (c.in-Ok-None.ensures.takes (shape_of made) (state_acts acts) s) in
    tells_by (took_kicks made acts c.args.queue None c.take_kicks.new.self t) refl c.refused.ensures (stays made acts _ t.2)

pub returns-in-Err-clause-line : goal.returns-in-Err-clause-line
returns-in-Err-clause-line g c = λ made acts s.
    let t = c.in-Err.ensures.takes (shape_of made) (state_acts acts) s in
    tells_by (no_kicks made acts c.args.queue c.in-Err.errno c.take_kicks.new.self t) refl c.refused-in-Err.ensures (stays made acts _ t.2)
