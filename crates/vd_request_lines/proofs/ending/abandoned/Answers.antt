use Rattle.std.proofs.Common.{◌≤◌, ◌++◌, List, [], rules, arith}
use Rattle.std.specs.Option.{option_map_or}
use Rattle.vd_model.specs.Setting.{Setting}
use Rattle.vd_model.specs.Acts.{Act}
use Rattle.vd_model.specs.Live.{live_mappings}
use Rattle.vd_model.specs.RingTurns.{unmap_acts}
use Rattle.vd_memory_lines.specs.Stands.{Stands}
use Rattle.blk_driver.specs.Driver.{least_of, maps_in}
use Rattle.vd_request_lines.proofs.ending.abandoned.Goals as goal

pub returns-clause-unmapped : goal.returns-clause-unmapped
returns-clause-unmapped c =
    let unmapped : (x : Setting) (acts : List Act) → Stands x acts c.args.memory.now c.args.pool.now
    → Stands x (unmap_acts (live_mappings acts) (option_map_or maps_in (least_of c.args.driver.now.pending) []) ++ acts) c.abandon.new.port.memory.now c.abandon.new.port.pool.now
    = c.abandon.ensures.unmapped in
    search (rules, unmapped)

pub returns-clause-maps : goal.returns-clause-maps
returns-clause-maps c =
    let sum = c.abandon.ensures.memory.kept.3 in
    let maps : c.abandon.new.port.memory.now.domain.maps ≤ c.args.memory.now.domain.maps = omega (arith, sum) in
    search (rules, maps)
