use Rattle.std.proofs.Common.{◌<◌, ◌≡◌, ◌-◌, arith}
use Rattle.std.specs.List.{slice_index}
use Rattle.std.proofs.lemmas.Grind.{common_steps}
use Rattle.vd_pool.proofs.Taken.{last_fresh, last_out}
use Rattle.vd_pool.proofs.pool.Pool.next.Goals as goal

pub returns-clause-fresh : goal.returns-clause-fresh
returns-clause-fresh c =
    let some : 0 < c.self.inside.spare = grind (arith, common_steps) in
    let read : slice_index c.self.inside.order.items (c.self.inside.spare - 1) ≡ c.index.result.now = grind (arith, common_steps) in
    rw (← c.self.view_is) (last_fresh _ c.self.inside.order.items c.index.result.now c.self.invariant some read)

pub returns-clause-out : goal.returns-clause-out
returns-clause-out c =
    let some : 0 < c.self.inside.spare = grind (arith, common_steps) in
    let read : slice_index c.self.inside.order.items (c.self.inside.spare - 1) ≡ c.index.result.now = grind (arith, common_steps) in
    rw (← c.self.view_is) (last_out _ c.self.inside.order.items c.index.result.now c.self.invariant some read)
