use Rattle.vd_memory_lines.proofs.BufferLines.{poke_line}
use Rattle.vd_memory_lines.proofs.memory.Memory.poke.Goals as goal

pub returns-clause-line : goal.returns-clause-line
returns-clause-line g c = λ x acts m s.
    poke_line x acts c.args.self.now m s _ c.args.buffer c.args.offset c.args.bytes.now c.poke.result c.poke.new.self c.tell.ensures (c.poke.ensures.ok x.per_page acts s.buffers) c.poke.ensures.err
