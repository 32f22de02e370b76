use Rattle.std.proofs.Common.{◌≡◌, ◌==◌, true, false, is_some, arith, rules}
use Rattle.std.specs.List.{list_any}
use Rattle.std.proofs.lemmas.Grind.{common_steps}
use Rattle.vd_model.specs.Acts.{Streaming}
use Rattle.vd_buffers.specs.Places.{len_of}
use Rattle.vd_memory_lines.proofs.Freeing.{freed}
use Rattle.vd_memory_lines.proofs.memory.Memory.free.Goals as goal

pub returns-clause-line : goal.returns-clause-line
returns-clause-line g c = λ x acts m s.
    let there : is_some (len_of c.args.self.now.buffers c.args.buffer) ≡ true = first_of (search rules, grind (arith, common_steps)) in
    let used : list_any (λ (m : Streaming). m.want.buffer == c.args.buffer) c.args.self.now.domain.live ≡ false = first_of (search rules, grind (arith, common_steps)) in
    freed x acts c.args.self.now m s _ c.args.buffer c.free.new.self there used c.done.ensures (c.free.ensures x.per_page acts s.buffers)
