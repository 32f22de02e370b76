use Rattle.std.proofs.Common.{subst, sym, refl, ap, ◌∙◌, ◌+◌, ◌++◌, ◌∷◌, [], arith}
use Rattle.vd_model.specs.declared.answer.Answer.TheVariants.{Err}
use Rattle.vd_model.specs.Acts.{Node, State, Bus, Opened, Attached}
use Rattle.vd_model.specs.State.{Max_set}
use Rattle.vd_model.specs.ControlTurns.{dev_made, plain_creation}
use Rattle.vd_instance.specs.Stands.{IsNamed}
use Rattle.vd_engine.specs.declared.devices.Named.{Named}
use Rattle.vd_engine.specs.Machine.{NoneIs, AllStand}
use Rattle.vd_engine.proofs.Counts.{within_later}
use Rattle.vd_engine.proofs.Engines.{quiet, results_as}
use Rattle.vd_engine.proofs.Outcomes.{making_done}
use Rattle.vd_engine.proofs.engine.Engine.dev.Goals as goal

pub returns-in-Err : goal.returns-in-Err
returns-in-Err g c = record {
  line = λ x done s.
      let stand = subst (λ l. AllStand x done l c.args.self.now.pool) (sym c.deref.ensures.value) s.devices in
      quiet c.args.self.now (Err c.in-Err.errno) (c.in-Err.ensures.refusal x done c.args.self.now.pool (dev_made c.args.name.now) stand) c.refused.ensures s;
  asked = refl;
}

pub returns : goal.returns
returns g c = record {
  line = λ x done s.
      let stand = subst (λ l. AllStand x done l c.args.self.now.pool) (sym c.deref.ensures.value) s.devices in
      let none = subst (λ l. NoneIs c.args.name.now l) c.deref.ensures.value c.in-Ok.ensures.none in
      let new : Named = record { name = c.from_vec-name.result; instance = c.in_ok-instance.instance } in
      results_as (c.in-Ok.ensures.refusal x done c.args.self.now.pool (dev_made c.args.name.now) stand) (record {
        says = c.fields.ensures;
        stands = making_done x done c.args.self.now _ s c.args.name.now new plain_creation (Bus Attached ∷ State (Max_set 0 256) ∷ Node Opened ∷ []) none (c.from_vec-name.ensures ∙ c.in_ok-from_slice.ensures.items) refl refl refl refl refl
            (c.push_reserved.ensures.items ∙ ap (λ l. l ++ new ∷ []) c.in_ok-reserve.ensures.items)
            c.in_ok-instance.ensures.stands c.in_ok-instance.ensures.held (within_later 1 (c.args.self.now.asked + 1) c.in_ok-instance.instance (omega arith) c.in_ok-instance.ensures.within)
            (subst (λ n. IsNamed n c.in_ok-instance.instance) (c.as_slice.ensures ∙ c.from_vec-name.ensures ∙ c.in_ok-from_slice.ensures.items) c.in_ok-instance.ensures.named);
      });
  asked = refl;
}
