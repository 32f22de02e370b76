use Rattle.vd_model.specs.Acts.{state_acts}
use Rattle.vd_model.specs.BusTurns.{shape_of}
use Rattle.vd_instance.proofs.instance.Instance.known_driver.Goals as goal

pub returns : goal.returns
returns c = λ x made acts m s. record {
  info = c.known.ensures made acts s.device.path.state;
  features = c.features.ensures (shape_of made) (state_acts acts) s.device.path.state;
}
