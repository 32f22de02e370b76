use Rattle.std.proofs.Common.{refl, ap, ◌∙◌, ◌++◌, ◌∷◌, []}
use Rattle.vd_model.specs.declared.answer.Answer.TheVariants.{Err}
use Rattle.vd_engine.specs.declared.windows.Given.{Given}
use Rattle.vd_engine.proofs.Engines.{quiet, results_as}
use Rattle.vd_engine.proofs.Outcomes.{window_done}
use Rattle.vd_engine.proofs.engine.Engine.image.Goals as goal

pub returns-in-Err : goal.returns-in-Err
returns-in-Err g c = record {
  line = λ x done s. quiet c.args.self.now (Err c.in-Err.errno) (c.in-Err.ensures.refusal x done s) c.refused.ensures s;
  asked = refl;
}

pub returns : goal.returns
returns g c = record {
  line = λ x done s.
      let new : Given = record { name = c.from_vec-name.result; window = c.args.window } in
      results_as (c.in-Ok.ensures.refusal x done s) (record {
        says = c.done.ensures;
        stands = window_done x done c.args.self.now _ s c.args.name.now c.args.window new (c.from_vec-name.ensures ∙ c.in_ok-from_slice.ensures.items) refl c.in-Ok.ensures.none c.in-Ok.ensures.inside refl refl
            (c.push_reserved.ensures.items ∙ ap (λ l. l ++ new ∷ []) c.in_ok-reserve.ensures.items) refl refl refl;
      });
  asked = refl;
}
