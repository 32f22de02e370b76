use Rattle.vd_memory_lines.proofs.AreaLines.{reg_line}
use Rattle.vd_memory_lines.proofs.memory.Memory.regumem.Goals as goal

pub returns-clause-line : goal.returns-clause-line
returns-clause-line g c = λ x acts s.
    reg_line x acts c.args.self.now c.args.pool.now s _ c.args.uaddr c.args.range.iova c.args.range.size c.reg_umem.result c.reg_umem.new.self c.reg_umem.new.pool c.tell.ensures (c.reg_umem.ensures.ok x acts s.domain) c.reg_umem.ensures.err
