use Rattle.std.proofs.Common.{ap, sym, ◌∙◌, not, Some, None, if◌then◌else◌}
use Rattle.vd_model.specs.Acts.{state_acts}
use Rattle.vd_model.specs.State.{queue_info}
use Rattle.vd_model.specs.BusTurns.{shape_of}
use Rattle.vd_instance.proofs.known.known.Goals as goal

pub returns-in-Ok : goal.returns-in-Ok
returns-in-Ok c = λ made acts s.
    let told = c.in-Ok.ensures (shape_of made) (state_acts acts) s in
    ap Some told.1 ∙ sym (ap (λ b. if not b then None else Some (queue_info (state_acts acts) c.args.queue)) told.0)

pub returns-in-Err : goal.returns-in-Err
returns-in-Err c = λ made acts s.
    let told = c.in-Err.ensures (shape_of made) (state_acts acts) s in
    sym (ap (λ b. if not b then None else Some (queue_info (state_acts acts) c.args.queue)) told.0)
