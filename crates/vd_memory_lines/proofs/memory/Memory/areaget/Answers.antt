use Rattle.std.proofs.Common.{◌≡◌, ◌+◌, arith, ap, sym, ◌∙◌, nat_lt, false, Some, None, refl, rules}
use Rattle.std.proofs.lemmas.Bool.Decides.{nat_tests}
use Rattle.vd_num.specs.declared.errno.Errno.TheVariants.{Inval}
use Rattle.vd_model.specs.Turn.{refusal_if}
use Rattle.vd_answers.proofs.Telling.{may_tell}
use Rattle.vd_memory_lines.proofs.Parts.{scratch_stays}
use Rattle.vd_memory_lines.proofs.AreaLines.{areaget_is}
use Rattle.vd_memory_lines.proofs.memory.Memory.areaget.Goals as goal

pub returns-clause-line : goal.returns-clause-line
returns-clause-line g c = λ x acts m s.
    let fits : nat_lt c.in-Some.size (c.args.offset + c.args.len) ≡ false = grind (arith, nat_tests) in
    let is = areaget_is x acts c.args.self.now m s (λ _. ⊥) c.args.offset c.args.len (Some c.in-Some.size) None (sym c.area_len.ensures ∙ c.in-Some.is) (ap (λ t. refusal_if t Inval) fits) in
    let t = scratch_stays x acts c.args.self.now c.take_room.new.self m c.in_ok-take_room.ensures.rest s in
    let out = c.area_get.ensures x acts m t.domain in
    may_tell c.text.result is refl (search (rules, out)) (record { domain = t.domain; buffers = t.buffers; inside = t.inside })
