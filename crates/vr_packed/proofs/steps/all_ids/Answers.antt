use Rattle.std.proofs.Common.{◌≡◌, ◌++◌, ◌∷◌, [], ℕ, List, ap, ◌∙◌, arith}
use Rattle.std.proofs.lemmas.Grind.{common_steps}
use Rattle.vr_packed.specs.Lies.{occurs}
use Rattle.vr_packed.proofs.Loops.{ids-more}
use Rattle.vr_packed.proofs.steps.all_ids.Goals as goal

pub loop-id-preserved : goal.loop-id-preserved
loop-id-preserved c =
    let items : c.push_reserved.new.self.items ≡ c.loop-id.ids.items ++ c.loop-id.id ∷ [] = c.push_reserved.ensures.items in
    record {
      ids = λ d. ap (λ (l : List ℕ). occurs d l) items ∙ ids-more c.loop-id.ids.items c.loop-id.id c.loop-id.invariant.ids d;
      len = grind (arith, common_steps);
      room = grind (arith, common_steps);
    }
