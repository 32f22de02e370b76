use Rattle.std.proofs.Common.{◌≡◌, length, map, replicate, vec_len}
use Rattle.std.specs.List.{All}
use Rattle.vr_slots.specs.Slots.{slot_of, empty_slot}
use Rattle.vr_slots.proofs.ring.Slots.new.Given as goal

abbrev pub invariant-loop-i : goal.invariant-loop-i
invariant-loop-i l = record {
  zeros : map slot_of l.held.items ≡ replicate l.i empty_slot;
  len : vec_len l.held ≡ l.i;
  whole : All (λ b. length b ≡ 16) l.held.items;
}
