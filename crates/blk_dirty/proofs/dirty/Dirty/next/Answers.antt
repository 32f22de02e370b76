use Rattle.std.proofs.Common.{◌≡◌, ℕ, List, Option, None, length, vec_capacity, sym, ap, subst, ◌∙◌, slice_index_or}
use Rattle.blk_dirty.specs.Dirty.{DirtyLines, IsSound, bytes_at}
use Rattle.blk_dirty.proofs.Marks.{marked_none}
use Rattle.blk_dirty.proofs.dirty.Dirty.next.Goals as goal

pub returns-in-None-clause-none : goal.returns-in-None-clause-none
unfolding bytes_at
returns-in-None-clause-none c =
    let none = subst (λ (xs : List (Option (List ℕ))). (s : ℕ) → slice_index_or xs s None ≡ None) c.deref-2.ensures.value c.in-None.ensures.none in
    ap (λ (d : DirtyLines). d.len) (sym c.self.view_is) ∙ c.self.invariant.count ∙ marked_none (λ s. slice_index_or c.self.inside.lines.items s None) (length c.self.inside.lines.items) none
