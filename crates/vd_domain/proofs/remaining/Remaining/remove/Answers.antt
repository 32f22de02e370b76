use Rattle.std.proofs.Common.{◌≡◌, ◌+◌, ◌<◌, ap, sym, ◌∙◌, arith, length, drop}
use Rattle.std.specs.List.{remove}
use Rattle.vd_domain.proofs.Cut.{cut_within, cut_more, cut_remove}
use Rattle.vd_domain.proofs.remaining.Remaining.remove.Goals as goal

pub overflow_add-self-inside : goal.overflow_add-self-inside
overflow_add-self-inside g c =
    let within : c.self.inside.gone + c.args.index < length c.self.inside.held.items = cut_within c.self.inside.gone c.args.index c.self.inside.held.items c.args.self.now c.self.view_is c.requires in
    let held = c.self.inside.held.ok.0 in
    let room = c.self.inside.held.ok.1 in
    let small = c.self.inside.held.small in
    omega (arith, within, held, room, small)

pub remove-requires : goal.remove-requires
remove-requires g c =
    let within : c.self.inside.gone + c.args.index < length c.self.inside.held.items = cut_within c.self.inside.gone c.args.index c.self.inside.held.items c.args.self.now c.self.view_is c.requires in
    let held = c.self.inside.held.ok.0 in
    omega (arith, within, held)

pub invariant_of-self : goal.invariant_of-self
invariant_of-self g c =
    let within : c.self.inside.gone + c.args.index < length c.self.inside.held.items = cut_within c.self.inside.gone c.args.index c.self.inside.held.items c.args.self.now c.self.view_is c.requires in
    let held = c.self.inside.held.ok.0 in
    let fewer = c.remove.ensures.len in
    let left = c.remove.new.self.ok.0 in
    omega (arith, within, held, fewer, left)

pub returns-then-index-gt0 : goal.returns-then-index-gt0
returns-then-index-gt0 g c =
    ap (drop c.self.inside.gone) c.remove.ensures.items
    ∙ cut_remove c.self.inside.gone c.args.index c.self.inside.held.items c.self.invariant
    ∙ ap (λ xs. remove xs c.args.index) c.self.view_is

pub drop_front-requires : goal.drop_front-requires
drop_front-requires g c =
    let within : c.self.inside.gone + c.args.index < length c.self.inside.held.items = cut_within c.self.inside.gone c.args.index c.self.inside.held.items c.args.self.now c.self.view_is c.requires in
    let held = c.self.inside.held.ok.0 in
    omega (arith, within, held)

pub returns-then-self-len : goal.returns-then-self-len
returns-then-self-len g c =
    let none : c.args.index ≡ 0 = omega arith in
    c.drop_front.ensures
    ∙ cut_more c.self.inside.gone c.self.inside.held.items
    ∙ ap (λ xs. remove xs 0) c.self.view_is
    ∙ ap (remove c.args.self.now) (sym none)

pub returns-else-self-len : goal.returns-else-self-len
returns-else-self-len g c =
    let none : c.args.index ≡ 0 = omega arith in
    cut_more c.self.inside.gone c.self.inside.held.items
    ∙ ap (λ xs. remove xs 0) c.self.view_is
    ∙ ap (remove c.args.self.now) (sym none)
