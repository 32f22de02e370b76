use Rattle.std.proofs.Common.{sym, ap, ◌∙◌}
use Rattle.std.specs.Prelude.{is_some}
use Rattle.vd_model.specs.ControlTurns.{destroy_outcome}
use Rattle.vd_engine.proofs.Engines.{may_do_ok}
use Rattle.vd_engine.proofs.Refusals.{name_read}
use Rattle.vd_engine.proofs.engine.Engine.destroy_dev.Goals as goal

pub returns-in-Some : goal.returns-in-Some
returns-in-Some g c = may_do_ok (λ x done. name_read x done c.args.bytes.now c.in-Some.gone (sym c.in_ok-read.ensures.formed ∙ ap is_some c.in-Some.is) (rw c.in-Some.is at c.in_ok-read.ensures.fields)
    ∙ ap (destroy_outcome done) (sym c.as_slice.ensures)) c.destroy.ensures.line
