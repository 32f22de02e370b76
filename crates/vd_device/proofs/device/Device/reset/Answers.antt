use Rattle.std.proofs.Common.{◌≡◌, true, false, refl, ap, sym, ◌∙◌, [], ◌∷◌, if◌then◌else◌}
use Rattle.vd_num.specs.declared.errno.Errno.TheVariants.{Io}
use Rattle.vd_model.specs.declared.message.Body.TheVariants as body
use Rattle.vd_model.specs.declared.answer.Answer.TheVariants.{Err}
use Rattle.vd_model.specs.Acts.{State, message_acts}
use Rattle.vd_model.specs.State.{Cleared}
use Rattle.vd_model.specs.Messages.{is_broken}
use Rattle.vd_model.specs.BusTurns.{device_start, send_turn}
use Rattle.vd_answers.proofs.Telling.{tells_by, tells_ok, may_tell_as, may_tell_over}
use Rattle.vd_control_path.proofs.Parts as path
use Rattle.vd_device.proofs.Parts.{path_line}
use Rattle.vd_device.proofs.device.Device.reset.Goals as goal

pub returns-then-broken-clause-line : goal.returns-then-broken-clause-line
returns-then-broken-clause-line g c = λ x made acts m s.
    let broken : is_broken (message_acts acts) ≡ true = sym (c.broken.ensures device_start (message_acts acts) s.path.messages) ∙ c.if-broken.true in
    tells_ok (tells_by (ap (λ b. if b then record { answer = Err Io; acts = State Cleared ∷ [] } else send_turn c.args.now acts (body.Status 0)) broken) refl c.refused.ensures (c.clear.ensures.stands x made acts m s))

pub returns-clause-line : goal.returns-clause-line
returns-clause-line g c = λ x made acts m s.
    let broken : is_broken (message_acts acts) ≡ false = sym (c.broken.ensures device_start (message_acts acts) s.path.messages) ∙ c.if-broken.false in
    may_tell_as (ap (λ b. if b then record { answer = Err Io; acts = State Cleared ∷ [] } else send_turn c.args.now acts (body.Status 0)) broken)
    (may_tell_over c.send.result (λ more a. path_line _ more s (path.message_line c.send.new.messages more s.path a)) (c.send.ensures.line acts s.path.messages))

pub returns-clause-path : goal.returns-clause-path
returns-clause-path g c = λ most w. path.within_more most _ (record { state = w.state; sessions = w.sessions; closings = w.closings })
