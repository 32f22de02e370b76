use Rattle.std.proofs.Common.{refl, ap, sym}
use Rattle.vd_model.specs.NodeTurns.{ioctl_turn}
use Rattle.vd_answers.proofs.Telling.{tells_by, tells_ok, may_tell_as}
use Rattle.vd_device.proofs.device.Device.ioctl.Goals as goal

pub returns-in-Some-clause-line : goal.returns-in-Some-clause-line
returns-in-Some-clause-line g c = λ x made acts s. may_tell_as (ap (ioctl_turn x made acts) (sym c.in-Some.ensures)) (c.meant.ensures.line x made acts s)

pub returns-in-None-clause-line : goal.returns-in-None-clause-line
returns-in-None-clause-line g c = λ x made acts s. tells_ok (tells_by (ap (ioctl_turn x made acts) (sym c.in-None.ensures)) refl c.refused.ensures s)
