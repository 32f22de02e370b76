use Rattle.std.proofs.Common.{◌∙◌, ap, nat_lt}
use Rattle.vd_memory_lines.proofs.Sessions.{live_is}
use Rattle.vd_memory_lines.proofs.memory.Memory.is_live.Goals as goal

pub returns : goal.returns
returns c = λ x acts m s. ap (nat_lt 0) c.live.ensures ∙ live_is x acts c.args.self.now m s
