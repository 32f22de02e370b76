use Rattle.std.proofs.Common.{◌≡◌, List, length, ap, ◌∙◌, arith}
use Rattle.std.proofs.lemmas.List.{length-replicate}
use Rattle.vr_pair.specs.QueueLists.{empty_lists}
use Rattle.vr_slots.specs.declared.slot.Slot.{Slot}
use Rattle.vr_slots.specs.Slots.{empty_slot}
use Rattle.vr_packed.proofs.Fresh.{fresh_at}
use Rattle.vr_packed.proofs.pair.PackedPair.new.Goals as goal

pub invariant_of-result-clause-room_for_ids : goal.invariant_of-result-clause-room_for_ids
invariant_of-result-clause-room_for_ids c =
    let len : length c.in_ok-slots.slots ≡ c.args.size = ap (λ (l : List Slot). length l) c.in_ok-slots.ensures ∙ length-replicate c.args.size empty_slot in
    let room = c.in_ok-all_ids.ensures.room in
    omega (arith, len, room)

pub invariant_of-result-clause-room_for_taken : goal.invariant_of-result-clause-room_for_taken
invariant_of-result-clause-room_for_taken c =
    let len : length c.in_ok-slots.slots ≡ c.args.size = ap (λ (l : List Slot). length l) c.in_ok-slots.ensures ∙ length-replicate c.args.size empty_slot in
    let room = c.in_ok-with_capacity.ensures.capacity in
    omega (arith, len, room)

pub invariant_of-result-clause-stood : goal.invariant_of-result-clause-stood
invariant_of-result-clause-stood c =
    let joined = c.in_ok-vec.field-0.ok in
    let count = c.in_ok-vec.ensures.len in
    let records_len : length c.in_ok-vec.field-0.items ≡ c.args.size = omega (arith, joined.0, count) in
    ∣ record {
      lists = empty_lists c.args.size;
      stands = fresh_at c.args.size c.in_ok-slots.slots c.in_ok-all_ids.field-0.items c.in_ok-vec.field-0.items c.in_ok-with_capacity.field-0.items c.requires.some c.requires.small records_len
          c.in_ok-all_ids.ensures.ids c.in_ok-all_ids.ensures.len c.in_ok-slots.ensures c.in_ok-with_capacity.ensures.items;
    } ∣₁

pub returns-clause-lists : goal.returns-clause-lists
returns-clause-lists c =
    let joined = c.in_ok-vec.field-0.ok in
    let count = c.in_ok-vec.ensures.len in
    let records_len : length c.in_ok-vec.field-0.items ≡ c.args.size = omega (arith, joined.0, count) in
    fresh_at c.args.size c.in_ok-slots.slots c.in_ok-all_ids.field-0.items c.in_ok-vec.field-0.items c.in_ok-with_capacity.field-0.items c.requires.some c.requires.small records_len
    c.in_ok-all_ids.ensures.ids c.in_ok-all_ids.ensures.len c.in_ok-slots.ensures c.in_ok-with_capacity.ensures.items
