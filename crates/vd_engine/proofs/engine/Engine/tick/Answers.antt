use Rattle.std.proofs.Common.{subst, sym, refl, ap, ◌≡◌, ◌∙◌, ◌+◌, ◌∷◌, []}
use Rattle.vd_model.specs.declared.answer.Item.TheVariants.{Number}
use Rattle.vd_model.specs.Deeds.{Passed, clock}
use Rattle.vd_model.specs.ControlTurns.{tick_outcome, done_outcome}
use Rattle.std.specs.Vec.{with_items}
use Rattle.vd_engine.specs.declared.engine.Engine.{Engine}
use Rattle.vd_engine.specs.Ticked.{AreTicked}
use Rattle.vd_engine.proofs.AfterTick.{refilled}
use Rattle.vd_engine.proofs.Engines.{results_as}
use Rattle.vd_engine.proofs.Refusals.{tick_is}
use Rattle.vd_engine.proofs.Outcomes.{tick_done}
use Rattle.vd_engine.proofs.engine.Engine.tick.Goals as goal

pub returns-in-Some : goal.returns-in-Some
returns-in-Some g c = record {
  line = λ x done s.
      let is : tick_outcome (clock done + c.args.seconds) ≡ done_outcome (Number c.in-Some.now ∷ []) (Passed c.in-Some.now ∷ []) =
      tick_is (clock done + c.args.seconds) c.in-Some.now (c.in-Some.ensures.0 ∙ ap (λ k. k + c.args.seconds) s.now) c.in-Some.ensures.1 in
      let after : Engine = record c.args.self.now { devices = with_items c.args.self.now.devices c.tick_all.new.devices; now = c.in-Some.now } in
      let told = subst (λ l. AreTicked c.in-Some.now l c.tick_all.new.devices) c.deref_mut.ensures.value c.tick_all.ensures in
      let same = refilled c.args.self.now.devices.len c.tick_all.new.devices c.args.self.now.devices.items (c.tick_all.ensures.count ∙ c.deref_mut.ensures.len) in
      results_as is (record {
        says = c.fields.ensures;
        stands = tick_done x done c.args.self.now after s refl refl refl refl (subst (λ l. AreTicked c.in-Some.now c.args.self.now.devices.items l) (sym same) told);
      });
  asked = refl;
}
