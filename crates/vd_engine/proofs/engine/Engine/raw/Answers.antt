use Rattle.std.proofs.Common.{ap, refl, arith, ◌<◌}
use Rattle.vd_num.specs.declared.errno.Errno.TheVariants.{Inval}
use Rattle.vd_model.specs.declared.answer.Answer.TheVariants.{Err}
use Rattle.vd_model.specs.Raw.{control_step}
use Rattle.vd_model.specs.ControlTurns.{raw_outcome}
use Rattle.vd_engine.proofs.Engines.{quiet, may_do_as, may_do_ok}
use Rattle.vd_engine.proofs.Refusals.{no_number}
use Rattle.vd_engine.proofs.engine.Engine.raw.Goals as goal

pub returns-in-0 : goal.returns-in-0
returns-in-0 g c = may_do_ok (λ x done. ap (λ n. raw_outcome x done (control_step n c.args.bytes.now)) c.in-0.is) c.get_api_version.ensures

pub returns-in-1 : goal.returns-in-1
returns-in-1 g c = may_do_ok (λ x done. ap (λ n. raw_outcome x done (control_step n c.args.bytes.now)) c.in-1.is) c.set_api_version.ensures

pub returns-in-2 : goal.returns-in-2
returns-in-2 g c = may_do_as (λ x done. ap (λ n. raw_outcome x done (control_step n c.args.bytes.now)) c.in-2.is) c.create_dev.ensures

pub returns-in-3 : goal.returns-in-3
returns-in-3 g c = may_do_as (λ x done. ap (λ n. raw_outcome x done (control_step n c.args.bytes.now)) c.in-3.is) c.destroy_dev.ensures

pub returns-in_default : goal.returns-in_default
returns-in_default g c = record {
  line = λ x done s. quiet c.args.self.now (Err Inval) (no_number x done c.args.number c.args.bytes.now (let above : 3 < c.args.number = omega arith in above)) c.refused.ensures s;
  asked = refl;
}
