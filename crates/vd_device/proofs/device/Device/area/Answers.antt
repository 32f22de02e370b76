use Rattle.std.proofs.Common.{sym, ◌∙◌}
use Rattle.vd_model.specs.Acts.{Node}
use Rattle.vd_model.specs.Turn.{lift}
use Rattle.vd_model.specs.AreaTurns.{area_turn}
use Rattle.vd_answers.proofs.Telling.{may_tell_as}
use Rattle.vd_device.proofs.Turns.{area_only, memory_tells, session_open}
use Rattle.vd_device.proofs.device.Device.area.Goals as goal

pub returns-clause-line : goal.returns-clause-line
returns-clause-line g c = λ x made acts s.
    may_tell_as (session_open acts (lift Node (area_turn x acts c.args.step.now)) (sym s.path.opened ∙ c.if-not-self.false))
    (memory_tells c.area_line.new.self c.area_line.result (area_only x acts c.args.step.now) s (c.area_line.ensures.line x acts s.memory))
