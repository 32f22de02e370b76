use Rattle.std.proofs.Common.{true, false, arith}
use Rattle.std.proofs.lemmas.Grind.{common_steps}
use Rattle.vr_chain.proofs.Sums.{total-split, readable-push, writable-push, any-push}
use Rattle.vr_chain.proofs.gathered.Gathered.take.Goals as goal

pub invariant_of-self-then-part : goal.invariant_of-self-then-part
invariant_of-self-then-part c =
    let split = total-split c.self.inside.parts in
    let r = readable-push c.self.inside.parts c.part_of-part.result true c.if-part.true in
    let w = writable-push c.self.inside.parts c.part_of-part.result true c.if-part.true in
    let a = any-push c.self.inside.parts c.part_of-part.result true c.if-part.true in
    grind (arith, common_steps)

pub invariant_of-self-else-part : goal.invariant_of-self-else-part
invariant_of-self-else-part c =
    let split = total-split c.self.inside.parts in
    let r = readable-push c.self.inside.parts c.part_of-part.result false c.if-part.false in
    let w = writable-push c.self.inside.parts c.part_of-part.result false c.if-part.false in
    let a = any-push c.self.inside.parts c.part_of-part.result false c.if-part.false in
    grind (arith, common_steps)
