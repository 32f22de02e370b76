use Rattle.std.proofs.Common.{ℕ, List, [], ◌∷◌, refl, ap, subst}
use Rattle.vd_model.specs.declared.answer.Answer.TheVariants.{Done}
use Rattle.vd_model.specs.declared.answer.Item.TheVariants.{Text}
use Rattle.vd_model.specs.Acts.{Node}
use Rattle.vd_model.specs.Raw.{info_bytes}
use Rattle.vd_model.specs.AreaTurns.{capability_of}
use Rattle.vd_model.specs.Turn.{done_with, lift}
use Rattle.vd_answers.proofs.Telling.{tells_by}
use Rattle.vd_device.proofs.device.Device.tell_info.Goals as goal

pub returns-in-Ok : goal.returns-in-Ok
returns-in-Ok g c = record {
  line = λ x made acts m s. tells_by (ap (lift Node) (c.in-Ok.ensures x acts m s.memory (λ r. done_with (Text (info_bytes r (capability_of r)) ∷ []) []))) refl
      (subst (λ (bytes : List ℕ). g.T.Hears.heard c.args.told.now (Done (Text bytes ∷ [])) c.short_text.new.self) c.info_of.ensures c.short_text.ensures) s;
}

pub returns-in-Err : goal.returns-in-Err
returns-in-Err g c = record {
  line = λ x made acts m s. tells_by (ap (lift Node) (c.in-Err.ensures x acts m s.memory (λ r. done_with (Text (info_bytes r (capability_of r)) ∷ []) []))) refl c.refused.ensures s;
}
