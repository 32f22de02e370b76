use Rattle.std.proofs.Common.{sym, ap, refl, ◌∙◌}
use Rattle.std.specs.Prelude.{is_some}
use Rattle.vd_num.specs.declared.errno.Errno.TheVariants.{Inval}
use Rattle.vd_model.specs.declared.answer.Answer.TheVariants.{Err}
use Rattle.vd_engine.proofs.Engines.{quiet, may_do_as}
use Rattle.vd_engine.proofs.Refusals.{no_config, config_read}
use Rattle.vd_engine.proofs.engine.Engine.create_dev.Goals as goal

pub returns-in-None : goal.returns-in-None
returns-in-None g c = record {
  line = λ x done s. quiet c.args.self.now (Err Inval) (no_config x done c.args.bytes.now (sym c.in_ok-read.ensures.formed ∙ ap is_some c.in-None.is)) c.refused.ensures s;
  asked = refl;
}

pub returns-in-Some : goal.returns-in-Some
returns-in-Some g c = may_do_as (λ x done. config_read x done c.args.bytes.now c.in-Some.config (sym c.in_ok-read.ensures.formed ∙ ap is_some c.in-Some.is) (rw c.in-Some.is at c.in_ok-read.ensures.fields)) c.create.ensures
