use Rattle.std.proofs.Common.{◌≤◌, rules, arith}
use Rattle.blk_driver.specs.Polled.{maps_of}
use Rattle.vd_rings.proofs.Lying.{map_of}
use Rattle.vd_request_lines.specs.Ended.{Ends}
use Rattle.vd_request_lines.proofs.polling.polled.Goals as goal

pub returns-clause-ends : goal.returns-clause-ends
returns-clause-ends c =
    let e = c.poll.ensures.ends in
    let ended : Ends c.args.memory.now c.args.pool.now c.poll.new.port.memory.now c.poll.new.port.pool.now (maps_of c.args.driver.now c.poll.result) =
    record { between = e.between.memory.now; pool = e.between.pool.now; ring = e.ring.3; same_told = map_of e.same_told; unmapped = e.unmapped } in
    search (rules, ended)

pub returns-clause-maps : goal.returns-clause-maps
returns-clause-maps c =
    let sum = c.poll.ensures.memory.kept.3 in
    let maps : c.poll.new.port.memory.now.domain.maps ≤ c.args.memory.now.domain.maps = omega (arith, sum) in
    search (rules, maps)
