use Rattle.vd_memory_lines.proofs.AreaLines.{region_found}
use Rattle.vd_memory_lines.proofs.memory.Memory.find_region.Goals as goal

pub returns : goal.returns
returns c = λ x acts m s. region_found x acts c.args.self.now m s (λ _. ⊥) c.args.range.start c.args.range.last c.lookup.result (c.lookup.ensures.found x acts m s.domain)
