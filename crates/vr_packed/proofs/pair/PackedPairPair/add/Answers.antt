use Rattle.std.proofs.Common.{◌≡◌, ◌+◌, ◌<◌, ◌≤◌, List, length, sym, ap, subst, ◌∙◌, arith}
use Rattle.std.proofs.Math.Logic.{∥∥₁_map}
use Rattle.vr_pair.specs.QueueLists.{free_count, with_added}
use Rattle.vr_slots.specs.declared.slot.Slot.{Slot}
use Rattle.vr_packed.specs.Packed.{PackedStands}
use Rattle.vr_packed.specs.State.{sides_of}
use Rattle.vr_packed.proofs.Chains.{length-chain_written}
use Rattle.vr_packed.proofs.Moves.{added_sides, add_stands}
use Rattle.vr_packed.proofs.Safe.{in_order, some_free, id_within, free_room}
use Rattle.vr_packed.proofs.pair.PackedPairPair.add.Goals as goal

pub unreachable-requires : goal.unreachable-requires
unreachable-requires c =
    let s = sides_of c.args.self.now.slots c.args.self.now.driver c.args.self.now.device in
    let order = in_order s c.args.self.now.stood in
    let left : s.placed < s.reclaimed + length s.slots = omega (arith, order.placed, order.reclaimed, order.written, order.read) in
    let some : 0 < length s.free = some_free s c.args.self.now.stood left in
    let none = c.in_default.ensures.cases in
    let joined = c.args.self.now.driver.free.ok in
    omega (arith, some, none.0, joined.0)

pub index_mut-requires : goal.index_mut-requires
index_mut-requires c =
    let s = sides_of c.args.self.now.slots c.args.self.now.driver c.args.self.now.device in
    let within = id_within s c.in-Some.id c.pop.new.self.items c.in-Some.ensures.items c.args.self.now.stood in
    let joined = c.args.self.now.driver.records.ok in
    omega (arith, within, joined.0)

pub overflow_add-self-2 : goal.overflow_add-self-2
overflow_add-self-2 c =
    let s = sides_of c.args.self.now.slots c.args.self.now.driver c.args.self.now.device in
    let order = in_order s c.args.self.now.stood in
    omega (arith, order.added, order.bound)

pub invariant_of-self-clause-room_for_ids : goal.invariant_of-self-clause-room_for_ids
invariant_of-self-clause-room_for_ids c =
    let s = sides_of c.args.self.now.slots c.args.self.now.driver c.args.self.now.device in
    let len : length c.write_chain.new.slots ≡ length s.slots = ap (λ (l : List Slot). length l) c.write_chain.ensures ∙ length-chain_written s.slots s.placed c.in-Some.id c.args.parts.now in
    let room = c.args.self.now.room_for_ids in
    let same = c.in-Some.ensures.capacity in
    omega (arith, len, room, same)

pub invariant_of-self-clause-room_for_taken : goal.invariant_of-self-clause-room_for_taken
invariant_of-self-clause-room_for_taken c =
    let s = sides_of c.args.self.now.slots c.args.self.now.driver c.args.self.now.device in
    let len : length c.write_chain.new.slots ≡ length s.slots = ap (λ (l : List Slot). length l) c.write_chain.ensures ∙ length-chain_written s.slots s.placed c.in-Some.id c.args.parts.now in
    let room = c.args.self.now.room_for_taken in
    omega (arith, len, room)

pub invariant_of-self-clause-stood : goal.invariant_of-self-clause-stood
invariant_of-self-clause-stood c =
    let s = sides_of c.args.self.now.slots c.args.self.now.driver c.args.self.now.device in
    ∥∥₁_map c.args.self.now.stood (λ r.
    let room : length c.args.parts.now ≤ free_count r.lists = free_room s r.lists r.stands (length c.args.parts.now) c.len.result c.len.ensures.len c.if-parts-len.false in
    let stands = add_stands s r.lists c.in-Some.id c.pop.new.self.items c.args.parts.now r.stands c.in-Some.ensures.items c.requires.some room c.requires.room in
    record {
      lists = with_added r.lists c.args.parts.now;
      stands = subst (λ (l : List Slot). PackedStands (record (added_sides s c.in-Some.id c.pop.new.self.items c.args.parts.now) { slots = l }) (with_added r.lists c.args.parts.now)) (sym c.write_chain.ensures) stands;
    })

pub returns-clause-lists : goal.returns-clause-lists
returns-clause-lists c = λ q h.
    let s = sides_of c.args.self.now.slots c.args.self.now.driver c.args.self.now.device in
    let counts = h.counts in
    let len = c.len.ensures.len in
    let room : length c.args.parts.now ≤ free_count q = free_room s q h (length c.args.parts.now) c.len.result len c.if-parts-len.false in
    let stands = add_stands s q c.in-Some.id c.pop.new.self.items c.args.parts.now h c.in-Some.ensures.items c.requires.some room c.requires.room in
    (sym counts.added, room, subst (λ (l : List Slot). PackedStands (record (added_sides s c.in-Some.id c.pop.new.self.items c.args.parts.now) { slots = l }) (with_added q c.args.parts.now)) (sym c.write_chain.ensures) stands)
