use Rattle.std.proofs.Common.{sym, ◌∙◌, length}
use Rattle.vd_memory_lines.proofs.RegionBytes.{cput_done, part_reached}
use Rattle.vd_memory_lines.proofs.memory.Memory.cput.Goals as goal

pub returns-in-Ok-ring_store-clause-line : goal.returns-in-Ok-ring_store-clause-line
returns-in-Ok-ring_store-clause-line g c = λ x acts m s.
    cput_done x acts c.args.self.now m s _ c.args.region c.args.offset c.args.bytes.now c.in-Ok.at c.ring_store.new.self (sym c.place_in.ensures ∙ c.in-Ok.is) (c.in-Ok-ring_store.ensures.ok x acts m s.domain).1 c.done.ensures

pub returns-in-Err-ring_store-clause-line : goal.returns-in-Err-ring_store-clause-line
returns-in-Err-ring_store-clause-line g c = λ x acts m s.
    let none = part_reached x acts c.args.self.now m s (λ _. ⊥) c.args.region c.args.offset (length c.args.bytes.now) c.in-Ok.at (sym c.place_in.ensures ∙ c.in-Ok.is) in
    let both = sym none ∙ c.in-Err-ring_store.ensures.ok x acts m s.domain in
    absurd (cc)
