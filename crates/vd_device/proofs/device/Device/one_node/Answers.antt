use Rattle.vd_answers.proofs.Telling.{tells_as}
use Rattle.vd_device.proofs.Turns.{plain_is}
use Rattle.vd_device.proofs.device.Device.one_node.Goals as goal

pub returns-clause-line : goal.returns-clause-line
returns-clause-line g c = λ x made acts s. tells_as (plain_is x made acts c.args.step.now c.requires.form) (c.plain_node.ensures.line x made acts s)
