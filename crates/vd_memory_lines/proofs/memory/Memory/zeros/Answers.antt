use Rattle.std.proofs.Common.{◌+◌, ◌≤◌, rules}
use Rattle.vd_model.specs.DriverTurns.{buffer_limit}
use Rattle.vd_buffers.specs.Places.{total_of}
use Rattle.vd_answers.proofs.Telling.{tells_ok}
use Rattle.vd_memory_lines.proofs.BufferLines.{zeros_made}
use Rattle.vd_memory_lines.proofs.memory.Memory.zeros.Goals as goal

pub returns-clause-line : goal.returns-clause-line
returns-clause-line g c = λ x acts m s.
    let room : total_of c.args.self.now.buffers + c.args.len ≤ buffer_limit = search rules in
    tells_ok (zeros_made x acts c.args.self.now m s _ c.args.len c.in_ok-number.number c.zeros.new.self room c.fields.ensures (c.in_ok-number.ensures.ok x.per_page acts s.buffers))
