use Rattle.std.proofs.Common.{◌+◌, ◌≤◌, length, rules}
use Rattle.vd_model.specs.DriverTurns.{buffer_limit}
use Rattle.vd_buffers.specs.Places.{total_of}
use Rattle.vd_answers.proofs.Telling.{tells_ok}
use Rattle.vd_memory_lines.proofs.BufferLines.{buf_made}
use Rattle.vd_memory_lines.proofs.memory.Memory.buf.Goals as goal

pub returns-clause-line : goal.returns-clause-line
returns-clause-line g c = λ x acts m s.
    let room : total_of c.args.self.now.buffers + length c.args.bytes.now ≤ buffer_limit = search rules in
    tells_ok (buf_made x acts c.args.self.now m s _ c.args.bytes.now c.in_ok-number.number c.add.new.self room c.fields.ensures (c.in_ok-number.ensures.ok x.per_page acts s.buffers))
