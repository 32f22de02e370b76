use Rattle.std.proofs.Common.{◌≡◌, ap, ◌∙◌, arith, rules}
use Rattle.vr_slots.specs.Slots.{slot_of, slot_bytes}
use Rattle.vr_slots.proofs.SlotLemmas.{bytes_back}
use Rattle.vr_slots.proofs.slot.Slot.to_bytes.Goals as goal

pub returns-clause-reads_back : goal.returns-clause-reads_back
returns-clause-reads_back c =
    let bytes : c.set16-2.new.into ≡ slot_bytes c.args.self = search rules in
    ap slot_of bytes ∙ bytes_back c.args.self (omega arith) (omega arith) (omega arith) (omega arith)
