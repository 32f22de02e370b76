use Rattle.vd_device.proofs.device.Device.clear.Goals as goal

pub returns-clause-stands : goal.returns-clause-stands
returns-clause-stands c = λ x made done m s. record {
  path = c.reset.ensures.stands made done s.path;
  memory = c.reset-2.ensures.stands x done m s.memory;
}
