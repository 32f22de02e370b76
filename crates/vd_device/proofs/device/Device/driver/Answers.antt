use Rattle.std.proofs.Common.{sym, ◌∙◌}
use Rattle.vd_model.specs.Acts.{Driver}
use Rattle.vd_model.specs.Turn.{lift}
use Rattle.vd_model.specs.DriverTurns.{driver_turn}
use Rattle.vd_answers.proofs.Telling.{may_tell_as}
use Rattle.vd_device.proofs.Turns.{driver_only, memory_tells, bus_there}
use Rattle.vd_device.proofs.device.Device.driver.Goals as goal

pub driver_line-requires-clause-reached : goal.driver_line-requires-clause-reached
driver_line-requires-clause-reached g c = let r = c.requires.reached in record { setting = r.setting; acts = r.acts; stands = r.stands.memory }

pub returns-clause-line : goal.returns-clause-line
returns-clause-line g c = λ x made acts s.
    may_tell_as (bus_there acts (lift Driver (driver_turn x acts c.args.step.now)) (sym s.path.attached ∙ c.if-not-self.false))
    (memory_tells c.driver_line.new.self c.driver_line.result (driver_only (driver_turn x acts c.args.step.now).acts) s (c.driver_line.ensures.line x acts s.memory))
