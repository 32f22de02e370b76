use Rattle.std.proofs.Common.{ap, ◌∙◌}
use Rattle.vd_model.specs.Creation.{has_feature}
use Rattle.vd_model.specs.Acts.{state_acts}
use Rattle.vd_model.specs.BusTurns.{shape_of}
use Rattle.vd_instance.proofs.instance.Instance.chain_at.Goals as goal

pub returns-clause-known : goal.returns-clause-known
returns-clause-known c = λ x made acts m s. record {
  info = c.known.ensures made acts s.device.path.state;
  tables = c.has_indirect.ensures ∙ ap (λ n. has_feature n 28) (c.features.ensures (shape_of made) (state_acts acts) s.device.path.state);
}
