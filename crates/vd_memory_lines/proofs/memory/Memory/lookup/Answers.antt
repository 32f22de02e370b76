use Rattle.std.proofs.Common.{refl, subst, ℕ, [], ◌∷◌}
use Rattle.vd_model.specs.AreaTurns.{lookup_turn}
use Rattle.vd_memory_lines.proofs.AreaLines.{found_line, not_found_line}
use Rattle.vd_model.specs.declared.answer.Answer.TheVariants.{Done}
use Rattle.vd_model.specs.declared.answer.Item.TheVariants.{Word, Number, Address}
use Rattle.vd_model.specs.declared.answer.Tag.TheVariants.{Offset, Start, Last, Perm}
use Rattle.vd_memory_lines.proofs.memory.Memory.lookup.Goals as goal

pub returns-in-Ok : goal.returns-in-Ok
returns-in-Ok g c = record {
  line = λ x acts m s. found_line x acts c.args.self.now m s _ c.args.range.start c.args.range.last lookup_turn c.in-Ok.region (c.in-Ok.ensures.found x acts m s.domain) refl (subst (λ (n : ℕ). g.T.Hears.heard c.args.told.now (Done (Word Offset ∷ Address c.in-Ok.region.offset ∷ Word Start ∷ Address c.in-Ok.region.start ∷ Word Last ∷ Address c.in-Ok.region.last ∷ Word Perm ∷ Number n ∷ [])) c.fields.new.self) c.from.ensures c.fields.ensures);
}

pub returns-in-Err : goal.returns-in-Err
returns-in-Err g c = record {
  line = λ x acts m s. not_found_line x acts c.args.self.now m s _ c.args.range.start c.args.range.last lookup_turn c.in-Err.errno (c.in-Err.ensures.found x acts m s.domain) c.refused.ensures;
}
