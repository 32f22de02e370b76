use Rattle.std.proofs.Common.{◌≡◌, ◌∙◌, sym, None, Some}
use Rattle.vd_model.specs.History.{reply}
use Rattle.vd_engine.specs.Does.{Goes}
use Rattle.vd_engine.proofs.engine.Engine.step.Goals as goal
use Rattle.vd_engine.proofs.engine.Engine.step.Goals.{in-Some, in-None}

pub returns-clause-ok : goal.returns-clause-ok
returns-clause-ok g c = λ x h stands image.
    let goes : Goes x (λ said. c.play.new.told.answer ≡ Some said) h c.args.step.now c.in_ok-disk_failed.disk_failed c.play.new.self = c.in_ok-disk_failed.ensures.ok x h stands image in
    let value = c.take.ensures.value in
    let says = goes.says in
    elim c.match-take.branch [
      | in-Some w ↦
          (let is = w.in-Some.is in
          let at = w.answer-is in
          record { says = (let e : c.match-take.answer ≡ reply x h c.args.step.now c.in_ok-disk_failed.disk_failed = cc in e); stands = goes.stands })
      | in-None w ↦ (let is = w.in-None.is in absurd (let e : None ≡ Some (reply x h c.args.step.now c.in_ok-disk_failed.disk_failed) = sym is ∙ value ∙ says in cc))
    ]
