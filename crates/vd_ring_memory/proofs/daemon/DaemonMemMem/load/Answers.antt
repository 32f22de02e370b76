use Rattle.std.proofs.Common.{length}
use Rattle.std.proofs.Math.Logic.{∥∥₁_elim}
use Rattle.vr_split.specs.MemLemmas.{tells}
use Rattle.vd_ring_memory.proofs.Reading.{loads}
use Rattle.vd_ring_memory.proofs.Telling.{loads_prop}
use Rattle.vd_ring_memory.proofs.daemon.DaemonMemMem.load.Goals as goal

pub returns-clause-loads : goal.returns-clause-loads
returns-clause-loads c = tells _ _ (∥∥₁_elim c.args.self.now.reached (loads_prop _ c.args.at (length c.args.out.now) c.load.result c.load.new.out) (λ r.
    loads r.setting r.acts _ (c.sees.ensures r.setting r.acts r.stands) c.args.at (length c.args.out.now) c.load.result c.load.new.out (c.load.ensures.ok r.setting r.acts r.stands)))
