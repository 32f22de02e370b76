use Rattle.std.proofs.Common.{subst, sym, refl, ◌≡◌, Some}
use Rattle.std.specs.List.{slice_get}
use Rattle.std.proofs.lemmas.Option.{slice_get_read}
use Rattle.vd_num.specs.declared.errno.Errno.TheVariants.{Nodev}
use Rattle.vd_model.specs.declared.answer.Answer.TheVariants.{Err}
use Rattle.vd_model.specs.Deeds.{device_view}
use Rattle.vd_model.specs.History.{dev_turn}
use Rattle.vd_engine.specs.Machine.{FirstIs, NoneIs}
use Rattle.vd_engine.proofs.Engines.{quiet, no_device}
use Rattle.vd_engine.proofs.Outcomes.{line_done}
use Rattle.vd_engine.proofs.engine.Engine.on_device.Goals as goal

pub returns-in-None-clause-line : goal.returns-in-None-clause-line
returns-in-None-clause-line g c = record {
  line = λ x done s. quiet c.args.self.now (Err Nodev)
      (no_device x done _ s c.args.name.now (subst (λ l. NoneIs c.args.name.now l) c.deref.ensures.value c.in-None.ensures) (λ made. dev_turn x made (device_view x c.args.name.now done) c.args.step.now))
      c.refused.ensures s;
  asked = refl;
}

pub returns-in-Some-clause-line : goal.returns-in-Some-clause-line
returns-in-Some-clause-line g c = record {
  line = λ x done s.
      let first : FirstIs c.args.name.now c.args.self.now.devices.items c.in-Some.place = subst (λ l. FirstIs c.args.name.now l c.in-Some.place) c.deref.ensures.value c.in-Some.ensures in
      let there : slice_get c.args.self.now.devices.items c.in-Some.place ≡ Some c.index_mut-named.result.now = slice_get_read _ _ c.in-Some.place _ refl first.within c.index_mut-named.ensures.value in
      line_done x done c.args.self.now _ s c.args.name.now c.in-Some.place _ _ first there refl refl refl refl refl refl c.step.ensures.rest c.step.ensures.named (λ made. dev_turn x made (device_view x c.args.name.now done) c.args.step.now) c.step.result c.step.ensures.within
      (λ made stands. c.step.ensures.line x made (device_view x c.args.name.now done) stands (sym s.now));
  asked = refl;
}
