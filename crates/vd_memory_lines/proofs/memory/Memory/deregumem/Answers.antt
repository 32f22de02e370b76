use Rattle.vd_memory_lines.proofs.AreaLines.{dereg_line}
use Rattle.vd_memory_lines.proofs.memory.Memory.deregumem.Goals as goal

pub returns-clause-line : goal.returns-clause-line
returns-clause-line g c = λ x acts s.
    dereg_line x acts c.args.self.now c.args.pool.now s _ c.args.range.iova c.args.range.size c.dereg_umem.result c.dereg_umem.new.self c.dereg_umem.new.pool c.tell.ensures (c.dereg_umem.ensures.ok x acts s.domain) c.dereg_umem.ensures.err
