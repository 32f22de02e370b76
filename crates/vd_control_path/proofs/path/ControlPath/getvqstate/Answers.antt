use Rattle.std.proofs.Common.{not, ap}
use Rattle.vd_num.specs.declared.errno.Errno.TheVariants.{Inval}
use Rattle.vd_model.specs.declared.message.Body.TheVariants.{VqState}
use Rattle.vd_model.specs.declared.answer.Answer.TheVariants.{Err}
use Rattle.vd_model.specs.Acts.{state_acts}
use Rattle.vd_model.specs.Turn.{refuse, refusal_if}
use Rattle.vd_model.specs.BusTurns.{shape_of, send_turn}
use Rattle.vd_answers.proofs.Telling.{tells_by, tells_ok, may_tell_as, may_tell_over}
use Rattle.vd_control_path.proofs.Parts.{message_line, path_stays}
use Rattle.vd_control_path.proofs.path.ControlPath.getvqstate.Goals as goal

pub returns-in-Ok-clause-line : goal.returns-in-Ok-clause-line
returns-in-Ok-clause-line g c = λ made acts s.
    let there = c.in-Ok.ensures (shape_of made) (state_acts acts) s.state in
    may_tell_as (ap (λ b. refuse (refusal_if (not b) Inval) (send_turn c.args.now acts (VqState c.args.queue))) there.0)
    (may_tell_over c.send.result (λ more a. message_line c.send.new.messages more s a) (c.send.ensures.line acts s.messages))

pub returns-in-Err-clause-line : goal.returns-in-Err-clause-line
returns-in-Err-clause-line g c = λ made acts s.
    let refused = c.in-Err.ensures (shape_of made) (state_acts acts) s.state in
    tells_ok
    (tells_by (ap (λ b. refuse (refusal_if (not b) Inval) (send_turn c.args.now acts (VqState c.args.queue))) refused.0) (ap Err refused.1) c.refused.ensures (path_stays s))
