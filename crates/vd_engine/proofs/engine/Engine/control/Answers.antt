use Rattle.std.proofs.Common.{sym, ap, ◌∙◌}
use Rattle.vd_model.specs.Raw.{control_step}
use Rattle.vd_model.specs.ControlTurns.{control_outcome, create_outcome, destroy_outcome, dev_outcome, raw_outcome, image_outcome}
use Rattle.vd_engine.proofs.Engines.{may_do_as, may_do_ok}
use Rattle.vd_engine.proofs.engine.Engine.control.Goals as goal

pub returns-in_ok-from_slice-in-Create-2 : goal.returns-in_ok-from_slice-in-Create-2
returns-in_ok-from_slice-in-Create-2 g c =
    let line = c.in-Create in
    let name = sym (c.from_vec.ensures ∙ c.in_ok-from_slice-in-Create.ensures.items ∙ c.as_slice.ensures) in
    let config = sym (c.from_vec-in-Create.ensures ∙ c.in_ok-from_slice-in-Create-2.ensures.items ∙ c.as_slice-in-Create.ensures) in
    may_do_as (λ x done. ap (control_outcome x done) line.is
    ∙ ap (λ n. create_outcome done n line.device line.features line.queues line.align line.config) name
    ∙ ap (λ b. create_outcome done c.from_vec.result line.device line.features line.queues line.align b) config) c.create.ensures

pub returns-in-Destroy : goal.returns-in-Destroy
returns-in-Destroy g c = may_do_ok (λ x done. ap (control_outcome x done) c.in-Destroy.is ∙ ap (λ n. destroy_outcome done n) (sym c.as_slice-in-Destroy.ensures)) c.destroy.ensures.line

pub returns-in-Dev : goal.returns-in-Dev
returns-in-Dev g c = may_do_as (λ x done. ap (control_outcome x done) c.in-Dev.is ∙ ap (λ n. dev_outcome done n) (sym c.as_slice-in-Dev.ensures)) c.dev.ensures

pub returns-in-Control : goal.returns-in-Control
returns-in-Control g c = may_do_as (λ x done. ap (control_outcome x done) c.in-Control.is ∙ ap (λ b. raw_outcome x done (control_step c.in-Control.number b)) (sym c.as_slice-in-Control.ensures)) c.raw.ensures

pub returns-in-Image : goal.returns-in-Image
returns-in-Image g c = may_do_as (λ x done. ap (control_outcome x done) c.in-Image.is ∙ ap (λ n. image_outcome x done n c.in-Image.first c.in-Image.count) (sym c.as_slice-in-Image.ensures)) c.image.ensures

pub returns-in-Tick : goal.returns-in-Tick
returns-in-Tick g c = may_do_ok (λ x done. ap (control_outcome x done) c.in-Tick.is) c.tick.ensures
