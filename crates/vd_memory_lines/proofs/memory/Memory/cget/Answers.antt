use Rattle.std.proofs.Common.{◌≡◌, sym, ◌∙◌, refl, rules, Some}
use Rattle.vd_model.specs.AreaTurns.{first_failing}
use Rattle.vd_domain.specs.Handed.{is_coherent}
use Rattle.vd_answers.proofs.Telling.{may_tell}
use Rattle.vd_memory_lines.proofs.Parts.{scratch_stays}
use Rattle.vd_memory_lines.proofs.RegionBytes.{cget_is, part_reached}
use Rattle.vd_memory_lines.proofs.memory.Memory.cget.Goals as goal

pub returns-in-Ok-ring_load-clause-line : goal.returns-in-Ok-ring_load-clause-line
returns-in-Ok-ring_load-clause-line g c = λ x acts m s.
    let is = cget_is x acts c.args.self.now m s (λ _. ⊥) c.args.region c.args.offset c.args.len c.in-Ok.at (sym c.place_in.ensures ∙ c.in-Ok.is) in
    let t = scratch_stays x acts c.args.self.now c.take_room.new.self m c.in_ok-take_room.ensures.rest s in
    let out = (c.in-Ok-ring_load.ensures.ok x acts m t.domain).1 in
    may_tell c.text.result is refl (search (rules, out)) (record { domain = t.domain; buffers = t.buffers; inside = t.inside })

pub returns-in-Err-ring_load-clause-line : goal.returns-in-Err-ring_load-clause-line
returns-in-Err-ring_load-clause-line g c = λ x acts m s.
    let none = part_reached x acts c.args.self.now m s (λ _. ⊥) c.args.region c.args.offset c.args.len c.in-Ok.at (sym c.place_in.ensures ∙ c.in-Ok.is) in
    let t = scratch_stays x acts c.args.self.now c.take_room.new.self m c.in_ok-take_room.ensures.rest s in
    let some = c.in-Err-ring_load.ensures.ok x acts m t.domain in
    let same : first_failing (is_coherent acts) c.in-Ok.at c.args.len ≡ Some c.in-Err-ring_load.at = search (rules, some) in
    let both = sym none ∙ same in
    absurd (cc)
