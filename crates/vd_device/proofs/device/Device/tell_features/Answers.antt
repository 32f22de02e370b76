use Rattle.std.proofs.Common.{ℕ, List, [], ◌∷◌, refl, ap, subst, sym}
use Rattle.vd_model.specs.declared.answer.Answer.TheVariants.{Done}
use Rattle.vd_model.specs.declared.answer.Item.TheVariants.{Text}
use Rattle.vd_model.specs.Acts.{state_acts}
use Rattle.vd_model.specs.Raw.{little_bytes}
use Rattle.vd_model.specs.Turn.{done_with}
use Rattle.vd_model.specs.BusTurns.{shape_of}
use Rattle.vd_answers.proofs.Telling.{tells_by}
use Rattle.vd_device.proofs.device.Device.tell_features.Goals as goal

pub returns : goal.returns
returns g c = record {
  line = λ x made acts m s. tells_by (ap (λ (n : ℕ). done_with (Text (little_bytes 8 n) ∷ []) []) (sym (c.features.ensures (shape_of made) (state_acts acts) s.path.state))) refl
      (subst (λ (bytes : List ℕ). g.T.Hears.heard c.args.told.now (Done (Text bytes ∷ [])) c.short_text.new.self) c.number_bytes.ensures c.short_text.ensures) s;
}
