use Rattle.std.proofs.Common.{ap, sym, ◌∙◌}
use Rattle.std.specs.Prelude.{◌&&◌}
use Rattle.vd_model.specs.History.{is_kept}
use Rattle.vd_instance.specs.Lines.{takes_kept}
use Rattle.vd_instance.proofs.instance.Instance.takes_kept.Goals as goal

pub returns-then-self : goal.returns-then-self
returns-then-self c = λ x made acts m s.
    c.is_kept.ensures x made acts m s ∙ sym (ap (λ t. t && is_kept made acts c.in-Driver.line) (sym s.device.path.attached ∙ c.if-self.true))
    ∙ ap (takes_kept made acts) (sym c.in-Driver.is)
