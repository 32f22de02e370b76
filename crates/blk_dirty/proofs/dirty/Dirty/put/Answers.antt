use Rattle.std.proofs.Common.{◌≡◌, ◌<◌, ◌≤◌, ℕ, ◌+◌, ◌-◌, List, Option, Some, None, length, vec_capacity, sym, ap, subst, ◌∙◌, arith, rules, slice_index_or, slice_set}
use Rattle.std.proofs.lemmas.List.{set-set}
use Rattle.std.proofs.lemmas.Grind.{common_steps}
use Rattle.blk_dirty.specs.Dirty.{DirtyLines, IsSound, bytes_at, mark}
use Rattle.blk_dirty.proofs.Marks.{mark_small}
use Rattle.blk_dirty.proofs.Edited.{edited}
use Rattle.blk_dirty.proofs.dirty.Dirty.put.Goals as goal

pub invariant_of-self : goal.invariant_of-self
unfolding bytes_at
invariant_of-self c =
    let d : DirtyLines = record { lines = c.self.inside.lines.items; len = c.self.inside.room - length c.self.inside.spare.items; room = c.self.inside.room } in
    let inside : c.args.sector < length c.self.inside.lines.items = subst (λ (d : DirtyLines). c.args.sector < length d.lines) (sym c.self.view_is) c.requires.inside in
    let there : c.take-old.result ≡ slice_index_or c.self.inside.lines.items c.args.sector None = first_of (search rules, grind (arith, common_steps)) in
    let same : mark c.take-old.result ≡ mark (slice_index_or c.self.inside.lines.items c.args.sector None) = ap (λ (o : Option (List ℕ)). mark o) there in
    let most : mark c.take-old.result ≤ 1 = mark_small c.take-old.result in
    let spare : length c.line_for-line.new.spare.items ≤ length c.self.inside.spare.items = omega (arith, c.line_for-line.ensures.spare) in
    subst (λ (xs : List (Option (List ℕ))). IsSound (record { lines = xs; len = c.self.inside.room - length c.line_for-line.new.spare.items; room = c.self.inside.room }) (length c.line_for-line.new.spare.items) (vec_capacity c.line_for-line.new.spare))
    (sym (set-set c.self.inside.lines.items c.args.sector c.take-old.new.self (Some c.fill.new.self)))
    (edited d (length c.self.inside.spare.items) (vec_capacity c.self.inside.spare) c.args.sector (c.self.inside.room - length c.line_for-line.new.spare.items) (length c.line_for-line.new.spare.items) (vec_capacity c.line_for-line.new.spare)
    (Some c.fill.new.self) c.self.invariant inside (λ bytes is. let e : c.fill.new.self ≡ bytes = cc in ap length (sym e) ∙ ap length c.fill.ensures ∙ c.requires.whole)
    (omega (arith, c.line_for-line.ensures.spare, c.self.invariant.rest)) (omega (arith, c.self.invariant.rest)) (omega (arith, c.line_for-line.ensures.capacity, c.self.invariant.capacity)))
