use Rattle.std.proofs.Common.{◌≡◌, ◌+◌, arith, ap, sym, ◌∙◌, nat_lt, false, length, Some}
use Rattle.std.proofs.lemmas.Bool.Decides.{nat_tests}
use Rattle.vd_num.specs.declared.errno.Errno.TheVariants.{Inval}
use Rattle.vd_model.specs.Turn.{refusal_if}
use Rattle.vd_memory_lines.proofs.AreaLines.{areaput_done}
use Rattle.vd_memory_lines.proofs.memory.Memory.areaput.Goals as goal

pub returns-clause-line : goal.returns-clause-line
returns-clause-line g c = λ x acts m s.
    let fits : nat_lt c.in-Some.size (c.args.offset + length c.args.bytes.now) ≡ false = grind (arith, nat_tests) in
    areaput_done x acts c.args.self.now m s _ c.args.offset c.args.bytes.now (Some c.in-Some.size) c.area_put.new.self (sym c.area_len.ensures ∙ c.in-Some.is) (ap (λ t. refusal_if t Inval) fits) (c.area_put.ensures.ok x acts m s.domain) c.done.ensures
