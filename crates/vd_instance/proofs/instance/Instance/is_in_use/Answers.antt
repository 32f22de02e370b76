use Rattle.vd_instance.proofs.instance.Instance.is_in_use.Goals as goal

pub returns : goal.returns
returns c = λ x made done m s. c.is_in_use.ensures x made done m s.device
