use Rattle.std.proofs.Common.{length}
use Rattle.std.proofs.Math.Logic.{∥∥₁_elim}
use Rattle.vr_split.specs.MemLemmas.{tells}
use Rattle.vd_ring_memory.proofs.Telling.{loads_prop}
use Rattle.vd_ring_memory.proofs.RingTelling.{ring_loads}
use Rattle.vd_driver_port.proofs.port.DriverPortMem.load.Goals as goal

pub returns-clause-loads : goal.returns-clause-loads
returns-clause-loads c =
    let pool = c.args.self.now.pool.now in
    tells _ _ (∥∥₁_elim c.args.self.now.reached (loads_prop _ c.args.at (length c.args.out.now) c.ring_load.result c.ring_load.new.out) (λ r.
    ring_loads r.setting r.acts _ (c.sees_rings.ensures r.setting r.acts pool r.stands.domain) c.args.at (length c.args.out.now) c.ring_load.result c.ring_load.new.out (c.ring_load.ensures.ok r.setting r.acts pool r.stands.domain)))
