use Rattle.std.proofs.Common.{refl, sym, true≢false}
use Rattle.vd_domain.specs.Held.{coherent_of}
use Rattle.vd_memory_lines.proofs.RegionLines.{region_freed}
use Rattle.vd_memory_lines.proofs.memory.Memory.freecoherent.Goals as goal

pub returns-in-Ok-clause-line : goal.returns-in-Ok-clause-line
returns-in-Ok-clause-line g c = λ x acts m s.
    region_freed x acts c.args.self.now m s _ c.args.number c.free_coherent.new.self (coherent_of c.args.self.now.domain c.args.number) refl (λ t. true≢false (sym (c.in-Ok.ensures.none.1 t)))
    (λ r e. c.in-Ok.ensures.ok x acts m r e s.domain) c.done.ensures
