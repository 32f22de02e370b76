use Rattle.std.proofs.Common.{◌≡◌, ℕ, List, [], length, ap, sym, ◌∙◌}
use Rattle.std.specs.List.{flat_map}
use Rattle.std.proofs.lemmas.List.{length-map}
use Rattle.vr_slots.specs.declared.slot.Slot.{Slot}
use Rattle.vr_slots.specs.Slots.{slot_of, slots_in}
use Rattle.vr_slots.proofs.SlotLemmas.{slots_in-flat}
use Rattle.vr_slots.proofs.ring.Slots.as_bytes.Goals as goal

pub returns-clause-slots : goal.returns-clause-slots
returns-clause-slots c =
    let held = c.self.inside.held.items in
    let bytes : c.as_flattened.result.now ≡ flat_map (λ x. x) held = c.as_flattened.ensures.value ∙ ap (λ (l : List (List ℕ)). flat_map (λ x. x) l) c.as_slice.ensures.value in
    let len : length c.args.self.now ≡ length held = sym (ap (λ (l : List Slot). length l) c.self.view_is) ∙ length-map held slot_of in
    ap (λ (n : ℕ). slots_in n c.as_flattened.result.now) len
    ∙ ap (λ (l : List ℕ). slots_in (length held) l) bytes
    ∙ slots_in-flat held (λ i h. c.self.invariant.2 i [] h)
    ∙ c.self.view_is
