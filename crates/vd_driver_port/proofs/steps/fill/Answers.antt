use Rattle.std.proofs.Math.Logic.{∥∥₁_map}
use Rattle.vd_driver_port.proofs.Filling.{filled, fill_reached}
use Rattle.vd_driver_port.proofs.steps.fill.Goals as goal

pub returns-clause-filled : goal.returns-clause-filled
returns-clause-filled c = λ x acts m s e.
    let p = c.poke-poked.ensures in
    filled x acts c.args.memory.now m s c.args.buffer c.args.offset c.args.bytes.now c.poke-poked.new.self c.poke-poked.result (p.ok x.per_page acts s.buffers) p.err e

pub returns-clause-reached : goal.returns-clause-reached
returns-clause-reached c = λ m reached.
    let p = c.poke-poked.ensures in
    ∥∥₁_map reached (λ r. fill_reached r.setting r.acts c.args.memory.now m r.stands c.args.buffer c.args.offset c.args.bytes.now r.apart c.poke-poked.new.self c.poke-poked.result (p.ok r.setting.per_page r.acts r.stands.buffers) p.err)
