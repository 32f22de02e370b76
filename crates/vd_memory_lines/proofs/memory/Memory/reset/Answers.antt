use Rattle.vd_memory_lines.proofs.Sessions.{cleared}
use Rattle.vd_memory_lines.proofs.memory.Memory.reset.Goals as goal

pub returns-clause-stands : goal.returns-clause-stands
returns-clause-stands c = λ x acts m s. cleared x acts c.args.self.now m s c.reset_bounce.new.self (c.reset_bounce.ensures.ok x acts m s.domain)
