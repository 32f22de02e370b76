use Rattle.vd_memory_lines.proofs.RegionLines.{coherent_line}
use Rattle.vd_memory_lines.proofs.memory.Memory.coherent.Goals as goal

pub returns-clause-line : goal.returns-clause-line
returns-clause-line g c = λ x acts m s.
    coherent_line x acts c.args.self.now m s _ c.args.len c.alloc_coherent.result _ c.alloc_coherent.new.self c.tell_mapped.ensures (record {
      ok = c.alloc_coherent.ensures.ok x acts m s.domain;
      place = c.alloc_coherent.ensures.place x acts m s.domain;
      full = c.alloc_coherent.ensures.full x acts m s.domain;
      empty = c.alloc_coherent.ensures.empty;
      err = c.alloc_coherent.ensures.err x acts m s.domain;
    })
