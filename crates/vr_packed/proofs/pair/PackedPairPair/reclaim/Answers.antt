use Rattle.std.proofs.Common.{◌≡◌, ◌+◌, true, false, ℕ, length, get_or, refl, ap, ◌∙◌, arith}
use Rattle.std.proofs.Math.Logic.{∥∥₁_map}
use Rattle.vr_pair.specs.QueueLists.{with_reclaimed}
use Rattle.vr_slots.specs.declared.slot.Slot.{Slot}
use Rattle.vr_slots.specs.Slots.{wrap_of, slot_at, is_used}
use Rattle.vr_packed.specs.declared.chain.ChainRecord.{ChainRecord}
use Rattle.vr_packed.specs.Lies.{no_record}
use Rattle.vr_packed.specs.State.{sides_of}
use Rattle.vr_packed.proofs.Safe.{in_order, none_used, one_used, reclaimable, moved_reclaimed, test_of, same_entry, recorded}
use Rattle.vr_packed.proofs.pair.PackedPairPair.reclaim.Goals as goal

pub returns-then-not-is_used-clause-lists : goal.returns-then-not-is_used-clause-lists
returns-then-not-is_used-clause-lists c = λ q h.
    let s = sides_of c.args.self.now.slots c.args.self.now.driver c.args.self.now.device in
    (none_used s q h (test_of is_used c.wrap.result (wrap_of (length s.slots) s.reclaimed) c.get-slot.result (slot_at s.slots s.reclaimed) c.is_used.result false c.is_used.ensures c.wrap.ensures c.get-slot.ensures c.if-not-is_used.true), h)

pub index-record-requires : goal.index-record-requires
index-record-requires c =
    let s = sides_of c.args.self.now.slots c.args.self.now.driver c.args.self.now.device in
    let may = reclaimable s (test_of is_used c.wrap.result (wrap_of (length s.slots) s.reclaimed) c.get-slot.result (slot_at s.slots s.reclaimed) c.is_used.result true c.is_used.ensures c.wrap.ensures c.get-slot.ensures c.if-not-is_used.false) c.args.self.now.stood in
    let id : c.get-slot.result.id ≡ (slot_at s.slots s.reclaimed).id = ap (λ (x : Slot). x.id) c.get-slot.ensures in
    let joined = c.args.self.now.driver.records.ok in
    let within = may.within in
    omega (arith, within, id, joined.0)

pub push_reserved-requires : goal.push_reserved-requires
push_reserved-requires c =
    let s = sides_of c.args.self.now.slots c.args.self.now.driver c.args.self.now.device in
    let may = reclaimable s (test_of is_used c.wrap.result (wrap_of (length s.slots) s.reclaimed) c.get-slot.result (slot_at s.slots s.reclaimed) c.is_used.result true c.is_used.ensures c.wrap.ensures c.get-slot.ensures c.if-not-is_used.false) c.args.self.now.stood in
    let joined = c.args.self.now.driver.free.ok in
    let left = may.room in
    let room = c.args.self.now.room_for_ids in
    omega (arith, left, room, joined.0)

pub overflow_add-self : goal.overflow_add-self
overflow_add-self c =
    let s = sides_of c.args.self.now.slots c.args.self.now.driver c.args.self.now.device in
    let may = reclaimable s (test_of is_used c.wrap.result (wrap_of (length s.slots) s.reclaimed) c.get-slot.result (slot_at s.slots s.reclaimed) c.is_used.result true c.is_used.ensures c.wrap.ensures c.get-slot.ensures c.if-not-is_used.false) c.args.self.now.stood in
    let order = in_order s c.args.self.now.stood in
    let id : c.get-slot.result.id ≡ (slot_at s.slots s.reclaimed).id = ap (λ (x : Slot). x.id) c.get-slot.ensures in
    let entry : c.index-record.result.now ≡ get_or s.records (slot_at s.slots s.reclaimed).id no_record =
    c.index-record.ensures ∙ ap (λ (i : ℕ). get_or s.records i c.index-record.result.now) id ∙ same_entry s.records (slot_at s.slots s.reclaimed).id c.index-record.result.now no_record may.within in
    let count : c.index-record.result.now.count ≡ (get_or s.records (slot_at s.slots s.reclaimed).id no_record).count = ap (λ (x : ChainRecord). x.count) entry in
    let ends = may.ends in
    omega (arith, count, ends, order.written, order.read, order.bound)

pub invariant_of-self-clause-room_for_ids : goal.invariant_of-self-clause-room_for_ids
invariant_of-self-clause-room_for_ids c =
    let room = c.args.self.now.room_for_ids in
    let same = c.push_reserved.ensures.capacity in
    omega (arith, room, same)

pub invariant_of-self-clause-room_for_taken : goal.invariant_of-self-clause-room_for_taken
invariant_of-self-clause-room_for_taken c = c.args.self.now.room_for_taken

pub invariant_of-self-clause-stood : goal.invariant_of-self-clause-stood
invariant_of-self-clause-stood c =
    let s = sides_of c.args.self.now.slots c.args.self.now.driver c.args.self.now.device in
    let test = test_of is_used c.wrap.result (wrap_of (length s.slots) s.reclaimed) c.get-slot.result (slot_at s.slots s.reclaimed) c.is_used.result true c.is_used.ensures c.wrap.ensures c.get-slot.ensures c.if-not-is_used.false in
    ∥∥₁_map c.args.self.now.stood (λ r.
    let one = one_used s r.lists r.stands test in
    let entry = recorded s r.lists r.stands one c.get-slot.result c.index-record.result.now c.get-slot.ensures c.index-record.ensures in
    record {
      lists = with_reclaimed r.lists one.rest;
      stands = moved_reclaimed s r.lists r.stands one c.push_reserved.new.self.items (s.reclaimed + c.index-record.result.now.count) c.get-slot.result.id c.index-record.result.now.count
          (ap (λ (x : Slot). x.id) (c.get-slot.ensures ∙ one.front.lies)) (ap (λ (x : ChainRecord). x.count) entry) c.push_reserved.ensures.items refl;
    })

pub returns-clause-lists : goal.returns-clause-lists
returns-clause-lists c = λ q h.
    let s = sides_of c.args.self.now.slots c.args.self.now.driver c.args.self.now.device in
    let one = one_used s q h (test_of is_used c.wrap.result (wrap_of (length s.slots) s.reclaimed) c.get-slot.result (slot_at s.slots s.reclaimed) c.is_used.result true c.is_used.ensures c.wrap.ensures c.get-slot.ensures c.if-not-is_used.false) in
    let entry = recorded s q h one c.get-slot.result c.index-record.result.now c.get-slot.ensures c.index-record.ensures in (
      one.finished,
      one.rest,
      one.first,
      ap (λ (x : ChainRecord). x.number) entry,
      ap (λ (x : Slot). x.len) (c.get-slot.ensures ∙ one.front.lies),
      moved_reclaimed s q h one c.push_reserved.new.self.items (s.reclaimed + c.index-record.result.now.count) c.get-slot.result.id c.index-record.result.now.count
          (ap (λ (x : Slot). x.id) (c.get-slot.ensures ∙ one.front.lies)) (ap (λ (x : ChainRecord). x.count) entry) c.push_reserved.ensures.items refl,
    )
