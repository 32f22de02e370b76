use Rattle.std.proofs.Common.{◌≡◌, ◌<◌, ◌≤◌, ℕ, ◌+◌, ◌-◌, List, Option, Some, None, length, vec_capacity, sym, ap, subst, ◌∙◌, arith, rules, slice_index_or, slice_set}
use Rattle.std.proofs.lemmas.Grind.{common_steps}
use Rattle.blk_dirty.specs.Dirty.{DirtyLines, IsSound, bytes_at, mark}
use Rattle.blk_dirty.proofs.Edited.{edited, used}
use Rattle.blk_dirty.proofs.dirty.Dirty.remove.Goals as goal

pub give_back-requires : goal.give_back-requires
unfolding bytes_at
give_back-requires c =
    let d : DirtyLines = record { lines = c.self.inside.lines.items; len = c.self.inside.room - length c.self.inside.spare.items; room = c.self.inside.room } in
    let inside : c.args.sector < length c.self.inside.lines.items = subst (λ (d : DirtyLines). c.args.sector < length d.lines) (sym c.self.view_is) c.requires.inside in
    let there : slice_index_or c.self.inside.lines.items c.args.sector None ≡ Some c.in-Some.line = first_of (search rules, grind (arith, common_steps)) in
    omega (arith, used d (length c.self.inside.spare.items) (vec_capacity c.self.inside.spare) c.args.sector c.in-Some.line c.self.invariant inside there, c.self.invariant.capacity)

pub invariant_of-self : goal.invariant_of-self
unfolding bytes_at
invariant_of-self c =
    let d : DirtyLines = record { lines = c.self.inside.lines.items; len = c.self.inside.room - length c.self.inside.spare.items; room = c.self.inside.room } in
    let inside : c.args.sector < length c.self.inside.lines.items = subst (λ (d : DirtyLines). c.args.sector < length d.lines) (sym c.self.view_is) c.requires.inside in
    let there : slice_index_or c.self.inside.lines.items c.args.sector None ≡ Some c.in-Some.line = first_of (search rules, grind (arith, common_steps)) in
    let one : mark (slice_index_or c.self.inside.lines.items c.args.sector None) ≡ 1 = ap (λ (o : Option (List ℕ)). mark o) there in
    let less = used d (length c.self.inside.spare.items) (vec_capacity c.self.inside.spare) c.args.sector c.in-Some.line c.self.invariant inside there in
    let gone : c.take.new.self ≡ None = first_of (search rules, grind (arith, common_steps)) in
    edited d (length c.self.inside.spare.items) (vec_capacity c.self.inside.spare) c.args.sector _ _ _ c.take.new.self c.self.invariant inside (λ bytes is. let no : None ≡ Some bytes = sym gone ∙ is in absurd (cc))
    (let none : mark c.take.new.self ≡ 0 = ap (λ (o : Option (List ℕ)). mark o) gone in omega (arith, c.give_back.ensures.spare, c.self.invariant.rest)) (omega (arith, c.give_back.ensures.spare)) (omega (arith, c.give_back.ensures.capacity, c.self.invariant.capacity))

pub returns-in-Some-clause-len : goal.returns-in-Some-clause-len
unfolding bytes_at
returns-in-Some-clause-len c =
    let d : DirtyLines = record { lines = c.self.inside.lines.items; len = c.self.inside.room - length c.self.inside.spare.items; room = c.self.inside.room } in
    let inside : c.args.sector < length c.self.inside.lines.items = subst (λ (d : DirtyLines). c.args.sector < length d.lines) (sym c.self.view_is) c.requires.inside in
    let there : slice_index_or c.self.inside.lines.items c.args.sector None ≡ Some c.in-Some.line = first_of (search rules, grind (arith, common_steps)) in
    let one : mark (slice_index_or c.self.inside.lines.items c.args.sector None) ≡ 1 = ap (λ (o : Option (List ℕ)). mark o) there in
    let less = used d (length c.self.inside.spare.items) (vec_capacity c.self.inside.spare) c.args.sector c.in-Some.line c.self.invariant inside there in
    let sum : c.self.inside.room - length c.give_back.new.spare.items + mark (slice_index_or c.self.inside.lines.items c.args.sector None) ≡ c.self.inside.room - length c.self.inside.spare.items =
    omega (arith, c.give_back.ensures.spare) in
    subst (λ (d : DirtyLines). c.self.inside.room - length c.give_back.new.spare.items + mark (slice_index_or d.lines c.args.sector None) ≡ d.len) c.self.view_is sum
