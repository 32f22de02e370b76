use Rattle.std.proofs.Common.{◌≡◌, ◌%◌, ◌==◌, ◌||◌, not, nat_lt, false}
use Rattle.std.proofs.lemmas.Bool.Decides.{nat_tests}
use Rattle.vd_model.specs.AreaTurns.{area_limit}
use Rattle.vd_answers.proofs.Telling.{tells_ok}
use Rattle.vd_memory_lines.proofs.AreaLines.{area_made}
use Rattle.vd_memory_lines.proofs.memory.Memory.area.Goals as goal
use Rattle.std.proofs.Common.{arith}

pub returns-in-Ok-clause-line : goal.returns-in-Ok-clause-line
returns-in-Ok-clause-line g c = λ x acts m s.
    let fits : ((c.args.bytes == 0) || not ((c.args.bytes % 4096) == 0) || nat_lt area_limit c.args.bytes) ≡ false = grind (arith, nat_tests) in
    tells_ok (area_made x acts c.args.self.now m s _ c.args.bytes c.new_area.new.self fits (λ t. let bad = c.in-Ok.ensures.busy.1 t in cc) (c.in-Ok.ensures.ok x acts m s.domain) c.fields.ensures)
