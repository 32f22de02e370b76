use Rattle.vd_driver_port.proofs.Mapping.{mapped, unmoved, number, map_steps}
use Rattle.vd_driver_port.proofs.Stepping.{told_same, reached_after}
use Rattle.vd_driver_port.proofs.steps.map_all.Goals as goal

pub returns-clause-mapped : goal.returns-clause-mapped
returns-clause-mapped c = λ x acts ms s.
    let e = c.map_all-mapped.ensures in
    let kept = c.requires.theirs x.per_page acts s.buffers in
    mapped c.args.memory.now c.args.pool.now c.args.wants.now c.map_all-mapped.result c.map_all-mapped.new.self c.map_all-mapped.new.pool c.requires.inside x acts s
    (record { ok = λ ms. e.ok x acts ms s.domain kept; place = e.place x acts s.domain; err = e.err x acts s.domain }) ms

pub returns-clause-placed : goal.returns-clause-placed
returns-clause-placed c = λ x acts s. c.map_all-mapped.ensures.place x acts s.domain

pub returns-clause-number : goal.returns-clause-number
returns-clause-number c = number c.args.memory.now c.args.pool.now c.args.wants.now c.map_all-mapped.result c.map_all-mapped.new.self c.map_all-mapped.new.pool c.requires.inside c.requires.reached c.map_all-mapped.ensures.place

pub returns-clause-stays : goal.returns-clause-stays
returns-clause-stays c = λ x acts s.
    let e = c.map_all-mapped.ensures in
    let kept = c.requires.theirs x.per_page acts s.buffers in
    unmoved c.args.memory.now c.args.pool.now c.args.wants.now c.map_all-mapped.result c.map_all-mapped.new.self c.map_all-mapped.new.pool c.requires.inside x acts s
    (record { ok = λ ms. e.ok x acts ms s.domain kept; place = e.place x acts s.domain; err = e.err x acts s.domain })

pub returns-clause-told : goal.returns-clause-told
returns-clause-told c =
    let e = c.map_all-mapped.ensures in
    told_same c.args.memory.now _ c.args.pool.now c.map_all-mapped.new.pool
    (map_steps c.args.memory.now c.args.pool.now c.args.wants.now c.map_all-mapped.new.self c.map_all-mapped.new.pool c.requires.inside c.map_all-mapped.result c.requires.reached
    (λ x acts s. record { ok = λ ms. e.ok x acts ms s.domain (c.requires.theirs x.per_page acts s.buffers); place = e.place x acts s.domain; err = e.err x acts s.domain }))
    c.sees_rings.ensures c.sees_rings-2.ensures

pub returns-clause-reached : goal.returns-clause-reached
returns-clause-reached c =
    let e = c.map_all-mapped.ensures in
    reached_after c.args.memory.now _ c.args.pool.now c.map_all-mapped.new.pool
    (map_steps c.args.memory.now c.args.pool.now c.args.wants.now c.map_all-mapped.new.self c.map_all-mapped.new.pool c.requires.inside c.map_all-mapped.result c.requires.reached
    (λ x acts s. record { ok = λ ms. e.ok x acts ms s.domain (c.requires.theirs x.per_page acts s.buffers); place = e.place x acts s.domain; err = e.err x acts s.domain }))
