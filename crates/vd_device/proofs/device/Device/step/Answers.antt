use Rattle.std.proofs.Common.{◌+◌, ap, subst, sym}
use Rattle.vd_answers.proofs.Telling.{may_tell_as}
use Rattle.vd_control_path.specs.declared.path.ControlPath.{ControlPath}
use Rattle.vd_control_path.specs.Stands as path
use Rattle.vd_control_path.proofs.Parts as path_parts
use Rattle.vd_device.specs.Turns.{line_turn}
use Rattle.vd_device.proofs.Parts.{frames_kept, others_kept, within_rest}
use Rattle.vd_device.proofs.device.Device.step.Goals as goal

pub returns-in-Node-clause-line : goal.returns-in-Node-clause-line
returns-in-Node-clause-line g c = λ x made acts s. may_tell_as (ap (line_turn x made c.args.now acts) c.in-Node.is) (c.node.ensures.line x made acts s)

pub returns-in-Area-clause-line : goal.returns-in-Area-clause-line
returns-in-Area-clause-line g c = λ x made acts s. may_tell_as (ap (line_turn x made c.args.now acts) c.in-Area.is) (c.area.ensures.line x made acts s)

pub returns-in-Bus-clause-line : goal.returns-in-Bus-clause-line
returns-in-Bus-clause-line g c = λ x made acts s. may_tell_as (ap (line_turn x made c.args.now acts) c.in-Bus.is) (c.bus.ensures.line x made acts c.args.pool.now s)

pub returns-in-Driver-clause-line : goal.returns-in-Driver-clause-line
returns-in-Driver-clause-line g c = λ x made acts s. may_tell_as (ap (line_turn x made c.args.now acts) c.in-Driver.is) (c.driver.ensures.line x made acts s)

pub returns-in-Bus-clause-rest : goal.returns-in-Bus-clause-rest
returns-in-Bus-clause-rest g c = others_kept _ _ _ _ (frames_kept (record { holds = c.requires.held.holds; size = c.requires.held.size }) c.bus.ensures.rest)

pub returns-in-Node-clause-within : goal.returns-in-Node-clause-within
returns-in-Node-clause-within g c = λ most w. within_rest most c.args.self.now c.node.new.self c.args.pool.now c.node.new.pool c.node.ensures.rest w (c.node.ensures.path most w.path)

pub returns-in-Area-clause-within : goal.returns-in-Area-clause-within
returns-in-Area-clause-within g c = λ most w. within_rest most c.args.self.now c.area.new.self c.args.pool.now c.area.new.pool c.area.ensures.rest w
    (subst (λ (p : ControlPath). path.IsWithin (most + 1) p) (sym c.area.ensures.path) (path_parts.within_more most _ w.path))

pub returns-in-Bus-clause-within : goal.returns-in-Bus-clause-within
returns-in-Bus-clause-within g c = λ most w. within_rest most c.args.self.now c.bus.new.self c.args.pool.now c.args.pool.now
    (frames_kept (record { holds = c.requires.held.holds; size = c.requires.held.size }) c.bus.ensures.rest) w (c.bus.ensures.path most w.path)

pub returns-in-Driver-clause-within : goal.returns-in-Driver-clause-within
returns-in-Driver-clause-within g c = λ most w. within_rest most c.args.self.now c.driver.new.self c.args.pool.now c.driver.new.pool c.driver.ensures.rest w
    (subst (λ (p : ControlPath). path.IsWithin (most + 1) p) (sym c.driver.ensures.path) (path_parts.within_more most _ w.path))
