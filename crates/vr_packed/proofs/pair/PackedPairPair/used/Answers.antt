use Rattle.std.proofs.Common.{◌≡◌, List, length, Some, None, sym, ap, ◌∙◌, arith}
use Rattle.std.proofs.Math.Logic.{∥∥₁_map}
use Rattle.vr_pair.specs.QueueLists.{with_used}
use Rattle.vr_slots.specs.declared.slot.Slot.{Slot}
use Rattle.vr_slots.specs.Slots.{wrap_of}
use Rattle.vr_packed.specs.Lies.{taken_of, used_slot}
use Rattle.vr_packed.specs.State.{sides_of}
use Rattle.vr_packed.proofs.Places.{length-with_slot}
use Rattle.vr_packed.proofs.Records.{removed}
use Rattle.vr_packed.proofs.Safe.{in_order, used_fits, unused_stands, moved_used}
use Rattle.vr_packed.proofs.pair.PackedPairPair.used.Goals as goal

pub invariant_of-self-clause-stood : goal.invariant_of-self-clause-stood
invariant_of-self-clause-stood c =
    let s = sides_of c.args.self.now.slots c.args.self.now.driver c.args.self.now.device in
    let none : taken_of c.args.number s.taken ≡ None = sym c.take_out.ensures.result ∙ c.in_default.is in
    ∥∥₁_map c.args.self.now.stood (λ r. record { lists = r.lists; stands = (unused_stands s r.lists c.args.number c.take_out.new.taken.items none c.take_out.ensures.rest r.stands).1 })

pub returns-in_default-clause-lists : goal.returns-in_default-clause-lists
returns-in_default-clause-lists c = λ q h.
    let s = sides_of c.args.self.now.slots c.args.self.now.driver c.args.self.now.device in
    let none : taken_of c.args.number s.taken ≡ None = sym c.take_out.ensures.result ∙ c.in_default.is in
    unused_stands s q c.args.number c.take_out.new.taken.items none c.take_out.ensures.rest h

pub overflow_add-self : goal.overflow_add-self
overflow_add-self c =
    let s = sides_of c.args.self.now.slots c.args.self.now.driver c.args.self.now.device in
    let found : taken_of c.args.number s.taken ≡ Some c.in-Some.chain = sym c.take_out.ensures.result ∙ c.in-Some.is in
    let fits = used_fits s c.args.number c.in-Some.chain found c.args.self.now.stood in
    let order = in_order s c.args.self.now.stood in
    omega (arith, fits, order.read, order.bound)

pub invariant_of-self-2-clause-room_for_ids : goal.invariant_of-self-2-clause-room_for_ids
invariant_of-self-2-clause-room_for_ids c =
    let s = sides_of c.args.self.now.slots c.args.self.now.driver c.args.self.now.device in
    let len : length c.write_used.new.slots ≡ length s.slots = ap (λ (l : List Slot). length l) c.write_used.ensures ∙ length-with_slot s.slots s.written (used_slot c.in-Some.chain.id c.args.len (wrap_of (length s.slots) s.written)) in
    let room = c.args.self.now.room_for_ids in
    omega (arith, len, room)

pub invariant_of-self-2-clause-room_for_taken : goal.invariant_of-self-2-clause-room_for_taken
invariant_of-self-2-clause-room_for_taken c =
    let s = sides_of c.args.self.now.slots c.args.self.now.driver c.args.self.now.device in
    let len : length c.write_used.new.slots ≡ length s.slots = ap (λ (l : List Slot). length l) c.write_used.ensures ∙ length-with_slot s.slots s.written (used_slot c.in-Some.chain.id c.args.len (wrap_of (length s.slots) s.written)) in
    let room = c.args.self.now.room_for_taken in
    let same = c.take_out.ensures.room in
    omega (arith, len, room, same)

pub invariant_of-self-2-clause-stood : goal.invariant_of-self-2-clause-stood
invariant_of-self-2-clause-stood c =
    let s = sides_of c.args.self.now.slots c.args.self.now.driver c.args.self.now.device in
    let found : taken_of c.args.number s.taken ≡ Some c.in-Some.chain = sym c.take_out.ensures.result ∙ c.in-Some.is in
    ∥∥₁_map c.args.self.now.stood (λ r.
    let out = removed c.args.number c.in-Some.chain s.taken r.lists.taken s.records r.stands.takes r.stands.known_taken found in
    record { lists = with_used r.lists out.chain c.args.len; stands = moved_used s r.lists r.stands c.args.number c.in-Some.chain c.args.len c.write_used.new.slots c.take_out.new.taken.items out c.write_used.ensures c.take_out.ensures.rest })

pub returns-clause-lists : goal.returns-clause-lists
returns-clause-lists c = λ q h.
    let s = sides_of c.args.self.now.slots c.args.self.now.driver c.args.self.now.device in
    let found : taken_of c.args.number s.taken ≡ Some c.in-Some.chain = sym c.take_out.ensures.result ∙ c.in-Some.is in
    let out = removed c.args.number c.in-Some.chain s.taken q.taken s.records h.takes h.known_taken found in
    (out.chain, out.found, out.named, moved_used s q h c.args.number c.in-Some.chain c.args.len c.write_used.new.slots c.take_out.new.taken.items out c.write_used.ensures c.take_out.ensures.rest)
