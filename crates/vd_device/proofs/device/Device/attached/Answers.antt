use Rattle.std.proofs.Common.{ap}
use Rattle.vd_model.specs.BusTurns.{attached_turn}
use Rattle.vd_answers.proofs.Telling.{tells_as, tells_ok, tells_over, may_tell_as, may_tell_over}
use Rattle.vd_control_path.proofs.Parts.{state_line, state_within}
use Rattle.vd_device.proofs.Parts.{path_line, frames_stay}
use Rattle.vd_device.proofs.device.Device.attached.Goals as goal

pub returns-in-Detach-clause-line : goal.returns-in-Detach-clause-line
returns-in-Detach-clause-line g c = λ x made acts m s. tells_ok (tells_as (ap (attached_turn made c.args.now acts) c.in-Detach.is) (c.detach.ensures.line x made acts m s))

pub returns-in-Detach-clause-path : goal.returns-in-Detach-clause-path
returns-in-Detach-clause-path g c = c.detach.ensures.path

pub returns-in-Reset-clause-line : goal.returns-in-Reset-clause-line
returns-in-Reset-clause-line g c = λ x made acts m s. may_tell_as (ap (attached_turn made c.args.now acts) c.in-Reset.is) (c.reset.ensures.line x made acts m s)

pub returns-in-Reset-clause-path : goal.returns-in-Reset-clause-path
returns-in-Reset-clause-path g c = c.reset.ensures.path

pub returns-in-Take-clause-line : goal.returns-in-Take-clause-line
returns-in-Take-clause-line g c = λ x made acts m s. tells_ok (tells_as (ap (attached_turn made c.args.now acts) c.in-Take.is) (c.take.ensures.line x made acts m s))

pub returns-in-Take-clause-path : goal.returns-in-Take-clause-path
returns-in-Take-clause-path g c = c.take.ensures.path

pub returns-in-Attach-clause-line : goal.returns-in-Attach-clause-line
returns-in-Attach-clause-line g c = λ x made acts m s. may_tell_over c.bus_line-in-Attach.result (λ more a. path_line c.bus_line-in-Attach.new.self more s a) (c.bus_line-in-Attach.ensures.line made acts s.path)

pub returns-in-Attach-clause-rest : goal.returns-in-Attach-clause-rest
returns-in-Attach-clause-rest g c = frames_stay _

pub returns-in-Attach-clause-path : goal.returns-in-Attach-clause-path
returns-in-Attach-clause-path g c = c.bus_line-in-Attach.ensures.within

pub returns-in-Kick-clause-line : goal.returns-in-Kick-clause-line
returns-in-Kick-clause-line g c = λ x made acts m s. tells_ok (tells_over (λ more a. path_line _ more s (state_line c.bus_line.new.state more s.path a)) (c.bus_line.ensures.line made acts s.path.state))

pub returns-in-Kick-clause-path : goal.returns-in-Kick-clause-path
returns-in-Kick-clause-path g c = λ most w. state_within most _ _ w (c.bus_line.ensures.counts most w.state)
