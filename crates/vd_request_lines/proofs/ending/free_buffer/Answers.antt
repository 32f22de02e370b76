use Rattle.vd_request_lines.proofs.Freeing.{freed_there}
use Rattle.vd_request_lines.proofs.ending.free_buffer.Goals as goal

pub returns-then-is_some-clause-freed : goal.returns-then-is_some-clause-freed
returns-then-is_some-clause-freed c = λ x acts m s none. freed_there x acts c.args.memory.now m s c.args.number none c.free.new.self (c.free.ensures x.per_page acts s.buffers)
