use Rattle.std.proofs.Common.{ℕ, List, ap, sym, ◌∙◌}
use Rattle.vd_model.specs.Raw.{ioctl_of}
use Rattle.vd_model.specs.NodeTurns.{open_node_turn, ioctl_turn}
use Rattle.vd_answers.proofs.Telling.{tells_ok, may_tell_as}
use Rattle.vd_device.proofs.device.Device.open_node.Goals as goal

pub returns-in-Ioctl-clause-line : goal.returns-in-Ioctl-clause-line
returns-in-Ioctl-clause-line g c = λ x made acts s. may_tell_as
    (ap (open_node_turn x made acts) c.in-Ioctl.is ∙ ap (λ (bytes : List ℕ). ioctl_turn x made acts (ioctl_of c.in-Ioctl.number bytes)) (sym c.as_slice.ensures))
    (c.ioctl.ensures.line x made acts s)

pub returns-in-Open-clause-line : goal.returns-in-Open-clause-line
returns-in-Open-clause-line g c = λ x made acts s. tells_ok (c.one_node.ensures.line x made acts s)
