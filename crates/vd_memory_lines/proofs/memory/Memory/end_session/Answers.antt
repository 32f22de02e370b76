use Rattle.vd_model.specs.Live.{registration_of}
use Rattle.vd_memory_lines.proofs.Sessions.{closed}
use Rattle.vd_memory_lines.proofs.memory.Memory.end_session.Goals as goal

pub returns-clause-stands : goal.returns-clause-stands
returns-clause-stands c = λ x acts s. closed x acts c.args.self.now c.args.pool.now s (registration_of acts) c.end_session.new.self c.end_session.new.pool (c.end_session.ensures.ok x acts s.domain)
