use Rattle.std.proofs.Common.{subst, sym, refl, ap, ◌∙◌, ◌≡◌, ◌+◌, ◌++◌, ◌∷◌, [], arith}
use Rattle.vd_model.specs.declared.answer.Answer.TheVariants.{Err}
use Rattle.vd_model.specs.Deeds.{Made}
use Rattle.vd_model.specs.ControlTurns.{new_or, done_outcome, refusal_outcome}
use Rattle.vd_control.specs.Checks.{is_refused}
use Rattle.vd_instance.specs.Stands.{IsNamed}
use Rattle.vd_engine.specs.declared.devices.Named.{Named}
use Rattle.vd_engine.specs.Machine.{NoneIs, AllStand}
use Rattle.vd_engine.proofs.Counts.{within_later}
use Rattle.vd_engine.proofs.Engines.{quiet, results_as}
use Rattle.vd_engine.proofs.Refusals.{create_refused, create_taken, only_inval}
use Rattle.vd_engine.proofs.Outcomes.{making_done}
use Rattle.vd_engine.proofs.engine.Engine.create.Goals as goal

pub returns-in-Err : goal.returns-in-Err
returns-in-Err g c = record {
  line = λ x done s. quiet c.args.self.now (Err c.in-Err.errno)
      (create_refused done c.args.config c.in-Err.ensures.taken ∙ ap refusal_outcome (sym (only_inval (is_refused c.args.config) c.in-Err.errno c.in-Err.ensures.taken c.in-Err.ensures.refused)))
      c.refused.ensures s;
  asked = refl;
}

pub returns-in-Err-check_new : goal.returns-in-Err-check_new
returns-in-Err-check_new g c = record {
  line = λ x done s.
      let made = done_outcome [] (Made c.args.config.name (record { features = c.args.config.features; queues = c.args.config.vq_num; config = c.args.config.config }) ∷ []) in
      let stand = subst (λ l. AllStand x done l c.args.self.now.pool) (sym c.deref.ensures.value) s.devices in
      let refused = subst (λ n. new_or done n made ≡ refusal_outcome c.in-Err-check_new.errno) c.as_slice.ensures (c.in-Err-check_new.ensures.refusal x done c.args.self.now.pool made stand) in
      quiet c.args.self.now (Err c.in-Err-check_new.errno) (create_taken done c.args.config c.in-Ok.ensures.taken ∙ refused) c.refused-in-Err-check_new.ensures s;
  asked = refl;
}

pub returns : goal.returns
returns g c = record {
  line = λ x done s.
      let made = done_outcome [] (Made c.args.config.name (record { features = c.args.config.features; queues = c.args.config.vq_num; config = c.args.config.config }) ∷ []) in
      let stand = subst (λ l. AllStand x done l c.args.self.now.pool) (sym c.deref.ensures.value) s.devices in
      let taken = subst (λ n. new_or done n made ≡ made) c.as_slice.ensures (c.in-Ok-check_new.ensures.refusal x done c.args.self.now.pool made stand) in
      let none = subst (λ n. NoneIs n c.args.self.now.devices.items) c.as_slice.ensures (subst (λ l. NoneIs c.as_slice.result.now l) c.deref.ensures.value c.in-Ok-check_new.ensures.none) in
      let new : Named = record { name = c.args.config.name; instance = c.in_ok-instance.instance } in
      results_as (create_taken done c.args.config c.in-Ok.ensures.taken ∙ taken) (record {
        says = c.done.ensures;
        stands = making_done x done c.args.self.now _ s c.args.config.name new _ [] none refl refl refl refl refl refl (c.push_reserved.ensures.items ∙ ap (λ l. l ++ new ∷ []) c.in_ok-reserve.ensures.items)
            c.in_ok-instance.ensures.stands c.in_ok-instance.ensures.held (within_later 0 (c.args.self.now.asked + 1) c.in_ok-instance.instance (omega arith) c.in_ok-instance.ensures.within)
            (subst (λ n. IsNamed n c.in_ok-instance.instance) c.as_slice-2.ensures c.in_ok-instance.ensures.named);
      });
  asked = refl;
}
