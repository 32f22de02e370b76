use Rattle.std.proofs.Common.{◌≡◌, ◌+◌, ◌∙◌, ◌++◌, ◌∷◌, [], ap, Some, None, arith, subst, sym, is_some, if◌then◌else◌, Option, ℕ}
use Rattle.std.proofs.lemmas.Grind.{common_steps}
use Rattle.std.proofs.lemmas.List.Sums.{sum_by_push}
use Rattle.vd_bounce.specs.Frames.{held_count, Keeps, Holds}
use Rattle.vd_bounce.proofs.Kept.{keeps_more, popped_none, popped_some}
use Rattle.vd_bounce.proofs.rows.discard.Goals as goal

pub loop-slot-preserved : goal.loop-slot-preserved
loop-slot-preserved c =
    let last : c.loop-slot.frames.items ≡ c.pop.new.self.items ++ None ∷ [] = grind (arith, common_steps) in
    let same = ap held_count last ∙ sum_by_push (λ (slot : Option ℕ). if is_some slot then 1 else 0) c.pop.new.self.items None in
    let before = c.loop-slot.invariant.back in
    record {
      kept = keeps_more c.loop-slot.invariant.kept
          (subst (λ xs. Keeps xs c.pop.new.self.items c.loop-slot.pool c.loop-slot.pool) (sym last)
          (popped_none c.pop.new.self.items c.loop-slot.pool (subst (λ xs. Holds xs c.loop-slot.pool) last c.loop-slot.invariant.kept.holds)));
      back = omega (arith, same, before);
    }

pub loop-slot-preserved-in-Some-slot : goal.loop-slot-preserved-in-Some-slot
loop-slot-preserved-in-Some-slot c =
    let last : c.loop-slot.frames.items ≡ c.pop.new.self.items ++ Some c.in-Some-slot.frame ∷ [] = grind (arith, common_steps) in
    let same = ap held_count last ∙ sum_by_push (λ (slot : Option ℕ). if is_some slot then 1 else 0) c.pop.new.self.items (Some c.in-Some-slot.frame) in
    let before = c.loop-slot.invariant.back in
    let given = c.give.ensures.spare in
    record {
      kept = keeps_more c.loop-slot.invariant.kept
          (subst (λ xs. Keeps xs c.pop.new.self.items c.loop-slot.pool c.give.new.self) (sym last)
          (popped_some c.pop.new.self.items c.in-Some-slot.frame c.loop-slot.pool c.give.new.self (subst (λ xs. Holds xs c.loop-slot.pool) last c.loop-slot.invariant.kept.holds) c.give.ensures));
      back = omega (arith, same, before, given);
    }
