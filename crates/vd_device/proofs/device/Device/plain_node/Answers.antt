use Rattle.std.proofs.Common.{refl, ap}
use Rattle.vd_model.specs.NodeTurns.{plain_turn}
use Rattle.vd_answers.proofs.Telling.{tells_by, tells_over}
use Rattle.vd_device.proofs.Parts.{path_line}
use Rattle.vd_device.proofs.device.Device.plain_node.Goals as goal

pub returns-in-Close-clause-line : goal.returns-in-Close-clause-line
returns-in-Close-clause-line g c = λ x made acts s. tells_by (ap (plain_turn made acts) c.in-Close.is) refl c.done.ensures (c.close.ensures.stands x made acts s)

pub returns-in-Close-clause-path : goal.returns-in-Close-clause-path
returns-in-Close-clause-path g c = c.close.ensures.path

pub returns-in-Ioctl-clause-line : goal.returns-in-Ioctl-clause-line
returns-in-Ioctl-clause-line g c = λ x made acts s. tells_by (ap (plain_turn made acts) c.in-Ioctl.is) refl c.refused.ensures s

pub returns-in-Open-clause-line : goal.returns-in-Open-clause-line
returns-in-Open-clause-line g c = λ x made acts s. tells_over (λ more a. path_line c.node_line.new.self more s a) (c.node_line.ensures.line made acts s.path)
