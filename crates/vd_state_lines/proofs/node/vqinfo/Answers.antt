use Rattle.std.proofs.Common.{refl}
use Rattle.vd_model.specs.Acts.{state_acts}
use Rattle.vd_model.specs.BusTurns.{shape_of}
use Rattle.vd_answers.proofs.Telling.{tells_by}
use Rattle.vd_state_lines.proofs.Lines.{told_of_queue, missing_queue, stays}
use Rattle.vd_state_lines.proofs.node.vqinfo.Goals as goal

pub returns-in-Ok : goal.returns-in-Ok
returns-in-Ok g c = record { line = λ made acts s. tells_by (told_of_queue made acts c.args.queue c.in-Ok.info c.args.state.now (c.in-Ok.ensures (shape_of made) (state_acts acts) s)) refl c.tell_info.ensures (stays made acts _ s) }

pub returns-in-Err : goal.returns-in-Err
returns-in-Err g c = record { line = λ made acts s. tells_by (missing_queue made acts c.args.queue c.in-Err.errno c.args.state.now (c.in-Err.ensures (shape_of made) (state_acts acts) s)) refl c.refused.ensures (stays made acts _ s) }
