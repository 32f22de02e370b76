use Rattle.std.proofs.Common.{refl, ap}
use Rattle.vd_model.specs.declared.answer.Item.TheVariants.{Text}
use Rattle.vd_model.specs.Acts.{Driver}
use Rattle.vd_model.specs.Puts.{ram_bytes}
use Rattle.vd_model.specs.Turn.{lift, refuse, done_with}
use Rattle.vd_answers.proofs.Telling.{tells_by, tells_ok}
use Rattle.vd_memory_lines.proofs.memory.Memory.peek.Goals as goal
use Rattle.std.proofs.Common.{[], ◌∷◌}

pub returns-in-Err : goal.returns-in-Err
returns-in-Err g c = record {
  line = λ x acts m s. tells_ok (tells_by (ap (λ o. lift Driver (refuse o (done_with (Text (ram_bytes x.per_page acts c.args.buffer c.args.offset c.args.len) ∷ []) []))) (c.in-Err.ensures.bytes x.per_page acts s.buffers)) refl c.refused.ensures s);
}
