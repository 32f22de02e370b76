use Rattle.vd_answers.proofs.Telling.{tells_ok}
use Rattle.vd_buffers.proofs.Ranges.{text_is}
use Rattle.vd_memory_lines.proofs.MappingLines.{map_line, map_refused}
use Rattle.vd_memory_lines.proofs.memory.Memory.map.Goals as goal

pub returns-in-Err-clause-line : goal.returns-in-Err-clause-line
returns-in-Err-clause-line g c = λ x acts s. tells_ok (map_refused x acts c.args.self.now c.args.pool.now s _ c.args.want c.in-Err.errno (c.in-Err.ensures.bytes x.per_page acts s.buffers) c.refused.ensures)

pub returns-clause-line : goal.returns-clause-line
returns-clause-line g c = λ x acts s.
    let range = c.in-Ok.ensures.lies in
    let text = text_is x.per_page acts c.args.self.now.buffers s.buffers c.args.want.buffer c.args.want.offset c.args.want.len _ range in
    map_line x acts c.args.self.now c.args.pool.now s c.args.want _ range _ c.map.result _ c.map.new.self c.map.new.pool c.tell_mapped.ensures (record {
      ok = c.map.ensures.ok x acts s.domain text;
      place = c.map.ensures.place x acts s.domain;
      full = c.map.ensures.full x acts s.domain;
      empty = c.map.ensures.empty;
      err = c.map.ensures.err x acts s.domain;
    })
