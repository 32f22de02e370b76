use Rattle.std.proofs.Common.{refl, ap, subst, sym, ◌∙◌, [], ◌∷◌, ◌++◌}
use Rattle.vd_model.specs.Acts.{Message_act, message_acts}
use Rattle.vd_model.specs.Messages.{Took}
use Rattle.vd_model.specs.BusTurns.{device_start, take_turn}
use Rattle.vd_answers.proofs.Telling.{tells_by}
use Rattle.vd_device.specs.Stands.{Stands}
use Rattle.vd_device.proofs.Taken.{took_by, left_by, done_is, failed_is, done_says}
use Rattle.vd_control_path.proofs.Parts.{within_more}
use Rattle.vd_device.proofs.device.Device.take.Goals as goal

pub returns-in-Pending-clause-line : goal.returns-in-Pending-clause-line
returns-in-Pending-clause-line g c = λ x made acts m s.
    let says = c.in-Pending.ensures.says device_start (message_acts acts) s.path.messages in
    tells_by (ap (take_turn c.args.id) (sym says)) refl c.answer.ensures (left_by c.take.new.self c.args.id _ says refl s (c.in-Pending.ensures.stands device_start (message_acts acts) s.path.messages))

pub returns-in-Unknown-clause-line : goal.returns-in-Unknown-clause-line
returns-in-Unknown-clause-line g c = λ x made acts m s.
    let says = c.in-Unknown.ensures.says device_start (message_acts acts) s.path.messages in
    tells_by (ap (take_turn c.args.id) (sym says)) refl c.refused.ensures (left_by c.take.new.self c.args.id _ says refl s (c.in-Unknown.ensures.stands device_start (message_acts acts) s.path.messages))

pub returns-in-Done-clause-line : goal.returns-in-Done-clause-line
returns-in-Done-clause-line g c = λ x made acts m s.
    let says = c.in-Done.ensures.says device_start (message_acts acts) s.path.messages in
    let taken = took_by c.take.new.self c.args.id _ says refl s (c.in-Done.ensures.stands device_start (message_acts acts) s.path.messages) in
    tells_by (ap (take_turn c.args.id) (sym says)) (done_says c.args.id c.in-Done.body c.in-Done.avail) c.tell_end.ensures
    (subst (λ l. Stands x made l c.accomplish.new.self m) (sym (done_is c.args.id c.in-Done.body c.in-Done.avail acts)) (c.accomplish.ensures.stands x made (Message_act (Took c.args.id) ∷ acts) m taken))

pub returns-in-FailedByReply-clause-line : goal.returns-in-FailedByReply-clause-line
returns-in-FailedByReply-clause-line g c = λ x made acts m s.
    let says = c.in-FailedByReply.ensures.says device_start (message_acts acts) s.path.messages in
    let taken = took_by c.take.new.self c.args.id _ says refl s (c.in-FailedByReply.ensures.stands device_start (message_acts acts) s.path.messages) in
    tells_by (ap (take_turn c.args.id) (sym says)) refl c.answer-in-FailedByReply.ensures
    (subst (λ l. Stands x made l c.fail.new.self m) (sym (failed_is c.args.id c.in-FailedByReply.body acts)) (c.fail.ensures.stands x made (Message_act (Took c.args.id) ∷ acts) m taken))

pub returns-in-FailedByTimeout-clause-line : goal.returns-in-FailedByTimeout-clause-line
returns-in-FailedByTimeout-clause-line g c = λ x made acts m s.
    let says = c.in-FailedByTimeout.ensures.says device_start (message_acts acts) s.path.messages in
    let taken = took_by c.take.new.self c.args.id _ says refl s (c.in-FailedByTimeout.ensures.stands device_start (message_acts acts) s.path.messages) in
    tells_by (ap (take_turn c.args.id) (sym says)) refl c.answer-in-FailedByTimeout.ensures
    (subst (λ l. Stands x made l c.fail-in-FailedByTimeout.new.self m) (sym (failed_is c.args.id c.in-FailedByTimeout.body acts)) (c.fail-in-FailedByTimeout.ensures.stands x made (Message_act (Took c.args.id) ∷ acts) m taken))

pub returns-in-Done-clause-path : goal.returns-in-Done-clause-path
returns-in-Done-clause-path g c = λ most w. c.accomplish.ensures.path most (record { state = w.state; sessions = w.sessions; closings = w.closings })

pub returns-in-FailedByReply-clause-path : goal.returns-in-FailedByReply-clause-path
returns-in-FailedByReply-clause-path g c = λ most w. c.fail.ensures.path most (record { state = w.state; sessions = w.sessions; closings = w.closings })

pub returns-in-FailedByTimeout-clause-path : goal.returns-in-FailedByTimeout-clause-path
returns-in-FailedByTimeout-clause-path g c = λ most w. c.fail-in-FailedByTimeout.ensures.path most (record { state = w.state; sessions = w.sessions; closings = w.closings })

pub returns-in-Pending-clause-path : goal.returns-in-Pending-clause-path
returns-in-Pending-clause-path g c = λ most w. within_more most _ (record { state = w.state; sessions = w.sessions; closings = w.closings })

pub returns-in-Unknown-clause-path : goal.returns-in-Unknown-clause-path
returns-in-Unknown-clause-path g c = λ most w. within_more most _ (record { state = w.state; sessions = w.sessions; closings = w.closings })
