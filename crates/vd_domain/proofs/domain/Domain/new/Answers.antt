use Rattle.std.proofs.Common.{◌/◌, arith}
use Rattle.vd_domain.proofs.Fits.{new_fit}
use Rattle.vd_domain.proofs.domain.Domain.new.Goals as goal

pub invariant_of-result : goal.invariant_of-result
invariant_of-result c = new_fit c.in_ok-bounce.bounce c.in-Ok.shared c.new-store.result c.in_ok-low.low c.in_ok-high.high c.in_ok-uses.uses c.new-in-Ok.result c.new-in-Ok-2.result
    (c.args.bounce_slots / c.args.per_page) c.args.per_page c.args.bounce_slots c.args.iova_slots
    c.in_ok-bounce.ensures.new c.in-Ok.ensures.new c.in_ok-low.ensures c.in_ok-high.ensures c.in_ok-uses.ensures c.new-in-Ok.ensures c.new-in-Ok-2.ensures
    c.requires.some c.requires.few c.requires.whole (let low = c.requires.low in let some = c.requires.some in omega (arith, low, some)) c.requires.order c.requires.small (c.in-Ok.ensures.holds c.new-store.result) c.new-store.ensures.size
