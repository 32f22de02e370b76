use Rattle.std.proofs.Common.{◌≡◌, ℕ, List, map, ap, ◌∙◌}
use Rattle.std.proofs.lemmas.List.{map-set}
use Rattle.std.proofs.Math.ListN.{set}
use Rattle.vr_slots.specs.declared.slot.Slot.{Slot}
use Rattle.vr_slots.specs.Slots.{slot_of}
use Rattle.vr_slots.proofs.ring.Slots.set.Goals as goal

pub returns : goal.returns
returns c =
    let i = c.index-index.result in
    let raw : map slot_of (set c.self.inside.held.items i c.to_bytes.result) ≡ set (map slot_of c.self.inside.held.items) i (slot_of c.to_bytes.result) = map-set slot_of c.self.inside.held.items i c.to_bytes.result in
    raw
    ∙ ap (λ (l : List Slot). set l i (slot_of c.to_bytes.result)) c.self.view_is
    ∙ ap (λ (s : Slot). set c.args.self.now i s) c.to_bytes.ensures.reads_back
    ∙ ap (λ (k : ℕ). set c.args.self.now k c.args.slot) c.index-index.ensures.index
