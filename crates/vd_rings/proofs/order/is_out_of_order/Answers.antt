use Rattle.std.proofs.Common.{sym, ◌∙◌, ◌+◌, drop}
use Rattle.vd_rings.proofs.Orders.{out_first, next_part, found_part, at_part}
use Rattle.vd_rings.proofs.order.is_out_of_order.Goals as goal

pub loop-part-init : goal.loop-part-init
loop-part-init c = out_first c.args.parts.now

pub loop-part-preserved : goal.loop-part-preserved
loop-part-preserved c =
    c.loop-part.invariant ∙ at_part c.loop-part.written c.args.parts.now c.loop-part.part-index _ c.loop-part-test.true
    ∙ next_part c.loop-part.written _ (drop (c.loop-part.part-index + 1) c.args.parts.now) (sym c.if-breaks_order.ensures)

pub returns-then-breaks_order : goal.returns-then-breaks_order
returns-then-breaks_order c = sym (
    c.loop-part.invariant ∙ at_part c.loop-part.written c.args.parts.now c.loop-part.part-index _ c.loop-part-test.true
    ∙ found_part c.loop-part.written _ (drop (c.loop-part.part-index + 1) c.args.parts.now) (sym c.if-breaks_order.ensures))
