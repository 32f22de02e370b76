use Rattle.std.proofs.Common.{subst, sym, refl, ap, arith, ◌∙◌, ◌≡◌, Some, true, false}
use Rattle.std.proofs.lemmas.List.Sums.{sum_by-remove}
use Rattle.std.specs.List.{slice_get}
use Rattle.std.proofs.lemmas.Option.{slice_get_read}
use Rattle.vd_num.specs.declared.errno.Errno.TheVariants.{Busy}
use Rattle.vd_model.specs.declared.answer.Answer.TheVariants.{Err}
use Rattle.vd_model.specs.Deeds.{acts_of_device}
use Rattle.vd_bounce.specs.Frames.{held_count}
use Rattle.vd_instance.specs.Stands.{frames}
use Rattle.vd_engine.specs.declared.devices.Named.{Named}
use Rattle.vd_engine.specs.Machine.{FirstIs, frames_out}
use Rattle.vd_engine.proofs.Deeds.{found_stands}
use Rattle.vd_engine.proofs.Engines.{quiet, results_as}
use Rattle.vd_engine.proofs.Refusals.{destroy_is}
use Rattle.vd_engine.proofs.Outcomes.{end_done}
use Rattle.vd_engine.proofs.engine.Engine.destroy.Goals as goal

pub returns-then-is_in_use-clause-line : goal.returns-then-is_in_use-clause-line
returns-then-is_in_use-clause-line g c = record {
  line = λ x done s.
      let first : FirstIs c.args.name.now c.args.self.now.devices.items c.in-Some.place = subst (λ l. FirstIs c.args.name.now l c.in-Some.place) c.deref.ensures.value c.in-Some.ensures in
      let there : slice_get c.args.self.now.devices.items c.in-Some.place ≡ Some c.index.result.now = slice_get_read _ _ c.in-Some.place _ refl first.within c.index.ensures in
      let that = found_stands x done _ _ s.devices c.args.name.now c.in-Some.place _ first there in
      quiet c.args.self.now (Err Busy) (destroy_is x done _ _ s.devices c.args.name.now c.in-Some.place first true (sym (c.if-is_in_use.ensures x that.made (acts_of_device c.args.name.now done) _ that.stands))) c.refused-then-is_in_use.ensures s;
  asked = refl;
}

pub discard-requires : goal.discard-requires
discard-requires g c =
    let first : FirstIs c.args.name.now c.args.self.now.devices.items c.in-Some.place = subst (λ l. FirstIs c.args.name.now l c.in-Some.place) c.deref.ensures.value c.in-Some.ensures in
    let there : slice_get c.args.self.now.devices.items c.in-Some.place ≡ Some c.remove-instance.result = slice_get_read _ _ c.in-Some.place _ refl first.within c.remove-instance.ensures.value in
    (c.requires.reached.stands.devices.frames.held c.in-Some.place c.remove-instance.result there).holds

pub returns-else-is_in_use-clause-line : goal.returns-else-is_in_use-clause-line
returns-else-is_in_use-clause-line g c = record {
  line = λ x done s.
      let first : FirstIs c.args.name.now c.args.self.now.devices.items c.in-Some.place = subst (λ l. FirstIs c.args.name.now l c.in-Some.place) c.deref.ensures.value c.in-Some.ensures in
      let seen : slice_get c.args.self.now.devices.items c.in-Some.place ≡ Some c.index.result.now = slice_get_read _ _ c.in-Some.place _ refl first.within c.index.ensures in
      let that = found_stands x done _ _ s.devices c.args.name.now c.in-Some.place _ first seen in
      let there : slice_get c.args.self.now.devices.items c.in-Some.place ≡ Some c.remove-instance.result = slice_get_read _ _ c.in-Some.place _ refl first.within c.remove-instance.ensures.value in
      results_as (destroy_is x done _ _ s.devices c.args.name.now c.in-Some.place first false (sym (c.if-is_in_use.ensures x that.made (acts_of_device c.args.name.now done) _ that.stands))) (record {
        says = c.done.ensures;
        stands = end_done x done c.args.self.now _ s c.args.name.now c.in-Some.place c.remove-instance.result _ first there refl refl refl refl c.remove-instance.ensures.items c.discard.ensures.kept;
      });
  asked = refl;
}

pub returns-else-is_in_use-clause-back : goal.returns-else-is_in_use-clause-back
returns-else-is_in_use-clause-back g c =
    let first : FirstIs c.args.name.now c.args.self.now.devices.items c.in-Some.place = subst (λ l. FirstIs c.args.name.now l c.in-Some.place) c.deref.ensures.value c.in-Some.ensures in
    let here = sum_by-remove (λ (d : Named). held_count (frames d.instance)) c.args.self.now.devices.items c.in-Some.place c.remove-instance.result first.within in
    let gone = ap frames_out c.remove-instance.ensures.items in
    let one = ap (λ (d : Named). held_count (frames d.instance)) c.remove-instance.ensures.value in
    let given = c.discard.ensures.back in
    omega (arith, here, gone, one, given)
