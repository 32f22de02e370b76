use Rattle.std.proofs.Common.{◌≡◌, ◌+◌, ◌++◌, true, false, List, length, refl, sym, ap, ◌∙◌, arith}
use Rattle.std.proofs.Math.Logic.{∥∥₁_map}
use Rattle.vd_model.specs.declared.parts.Part.{Part}
use Rattle.vr_pair.specs.QueueLists.{with_taken}
use Rattle.vr_slots.specs.Slots.{wrap_of, slot_at, is_available}
use Rattle.vr_packed.specs.State.{sides_of}
use Rattle.vr_packed.proofs.Safe.{in_order, none_waits, one_waits, short_of, read_short, IsRead, moved_next, test_of}
use Rattle.vr_packed.proofs.pair.PackedPairPair.next.Goals as goal

pub returns-then-not-is_available-clause-lists : goal.returns-then-not-is_available-clause-lists
returns-then-not-is_available-clause-lists c = λ q h.
    let s = sides_of c.args.self.now.slots c.args.self.now.driver c.args.self.now.device in
    (none_waits s q h (test_of is_available c.wrap.result (wrap_of (length s.slots) s.read) c.get.result (slot_at s.slots s.read) c.is_available.result false c.is_available.ensures c.wrap.ensures c.get.ensures c.if-not-is_available.true), h)

pub read_chain-requires : goal.read_chain-requires
read_chain-requires c =
    let s = sides_of c.args.self.now.slots c.args.self.now.driver c.args.self.now.device in
    let order = in_order s c.args.self.now.stood in
    omega (arith, order.read, order.bound, order.small)

pub overflow_cast-count : goal.overflow_cast-count
overflow_cast-count c =
    let s = sides_of c.args.self.now.slots c.args.self.now.driver c.args.self.now.device in
    let test = test_of is_available c.wrap.result (wrap_of (length s.slots) s.read) c.get.result (slot_at s.slots s.read) c.is_available.result true c.is_available.ensures c.wrap.ensures c.get.ensures c.if-not-is_available.false in
    let is : IsRead s.slots s.read c.in_ok-id.id c.read_chain.new.into = λ id parts some fits lies. let r = c.in_ok-id.ensures id parts some fits lies in (r.0, r.1 ∙ ap (λ (l : List Part). l ++ parts) c.clear.ensures) in
    let short = read_short s c.in_ok-id.id c.read_chain.new.into is test c.args.self.now.stood in
    let len : length c.as_slice-count.result.now ≡ length c.read_chain.new.into = ap (λ (l : List Part). length l) c.as_slice-count.ensures in
    let order = in_order s c.args.self.now.stood in
    let fits = short.fits in
    omega (arith, len, fits, order.small)

pub push_back_reserved-requires : goal.push_back_reserved-requires
push_back_reserved-requires c =
    let s = sides_of c.args.self.now.slots c.args.self.now.driver c.args.self.now.device in
    let test = test_of is_available c.wrap.result (wrap_of (length s.slots) s.read) c.get.result (slot_at s.slots s.read) c.is_available.result true c.is_available.ensures c.wrap.ensures c.get.ensures c.if-not-is_available.false in
    let is : IsRead s.slots s.read c.in_ok-id.id c.read_chain.new.into = λ id parts some fits lies. let r = c.in_ok-id.ensures id parts some fits lies in (r.0, r.1 ∙ ap (λ (l : List Part). l ++ parts) c.clear.ensures) in
    let short = read_short s c.in_ok-id.id c.read_chain.new.into is test c.args.self.now.stood in
    let len : length c.as_slice-count.result.now ≡ length c.read_chain.new.into = ap (λ (l : List Part). length l) c.as_slice-count.ensures in
    let left = short.room in
    let room = c.args.self.now.room_for_taken in
    let joined = c.args.self.now.device.taken.ok in
    omega (arith, left, room, joined.0)

pub overflow_add-self : goal.overflow_add-self
overflow_add-self c =
    let s = sides_of c.args.self.now.slots c.args.self.now.driver c.args.self.now.device in
    let test = test_of is_available c.wrap.result (wrap_of (length s.slots) s.read) c.get.result (slot_at s.slots s.read) c.is_available.result true c.is_available.ensures c.wrap.ensures c.get.ensures c.if-not-is_available.false in
    let is : IsRead s.slots s.read c.in_ok-id.id c.read_chain.new.into = λ id parts some fits lies. let r = c.in_ok-id.ensures id parts some fits lies in (r.0, r.1 ∙ ap (λ (l : List Part). l ++ parts) c.clear.ensures) in
    let short = read_short s c.in_ok-id.id c.read_chain.new.into is test c.args.self.now.stood in
    let len : length c.as_slice-count.result.now ≡ length c.read_chain.new.into = ap (λ (l : List Part). length l) c.as_slice-count.ensures in
    let order = in_order s c.args.self.now.stood in
    let ends = short.ends in
    omega (arith, len, ends, order.bound)

pub overflow_add-self-2 : goal.overflow_add-self-2
overflow_add-self-2 c =
    let s = sides_of c.args.self.now.slots c.args.self.now.driver c.args.self.now.device in
    let order = in_order s c.args.self.now.stood in
    omega (arith, order.given, order.added, order.bound)

pub invariant_of-self-clause-room_for_ids : goal.invariant_of-self-clause-room_for_ids
invariant_of-self-clause-room_for_ids c = c.args.self.now.room_for_ids

pub invariant_of-self-clause-room_for_taken : goal.invariant_of-self-clause-room_for_taken
invariant_of-self-clause-room_for_taken c =
    let room = c.args.self.now.room_for_taken in
    let same = c.push_back_reserved.ensures.capacity in
    omega (arith, room, same)

pub invariant_of-self-clause-stood : goal.invariant_of-self-clause-stood
invariant_of-self-clause-stood c =
    let s = sides_of c.args.self.now.slots c.args.self.now.driver c.args.self.now.device in
    let test = test_of is_available c.wrap.result (wrap_of (length s.slots) s.read) c.get.result (slot_at s.slots s.read) c.is_available.result true c.is_available.ensures c.wrap.ensures c.get.ensures c.if-not-is_available.false in
    let is : IsRead s.slots s.read c.in_ok-id.id c.read_chain.new.into = λ id parts some fits lies. let r = c.in_ok-id.ensures id parts some fits lies in (r.0, r.1 ∙ ap (λ (l : List Part). l ++ parts) c.clear.ensures) in
    ∥∥₁_map c.args.self.now.stood (λ r.
    let w = one_waits s r.lists r.stands test in
    let same = is w.front.id w.chain.parts w.front.some (short_of s r.lists r.stands w).fits w.front.lies in
    record {
      lists = with_taken r.lists w.chain w.rest;
      stands = moved_next s r.lists r.stands w c.push_back_reserved.new.self.items (s.read + length c.as_slice-count.result.now) c.in_ok-id.id (length c.as_slice-count.result.now)
          same.0 (ap (λ (l : List Part). length l) (c.as_slice-count.ensures ∙ same.1)) c.push_back_reserved.ensures.items refl;
    })

pub returns-clause-lists : goal.returns-clause-lists
returns-clause-lists c = λ q h.
    let s = sides_of c.args.self.now.slots c.args.self.now.driver c.args.self.now.device in
    let test = test_of is_available c.wrap.result (wrap_of (length s.slots) s.read) c.get.result (slot_at s.slots s.read) c.is_available.result true c.is_available.ensures c.wrap.ensures c.get.ensures c.if-not-is_available.false in
    let is : IsRead s.slots s.read c.in_ok-id.id c.read_chain.new.into = λ id parts some fits lies. let r = c.in_ok-id.ensures id parts some fits lies in (r.0, r.1 ∙ ap (λ (l : List Part). l ++ parts) c.clear.ensures) in
    let w = one_waits s q h test in
    let same = is w.front.id w.chain.parts w.front.some (short_of s q h w).fits w.front.lies in (
      w.chain,
      w.rest,
      w.first,
      sym w.front.numbered,
      same.1,
      moved_next s q h w c.push_back_reserved.new.self.items (s.read + length c.as_slice-count.result.now) c.in_ok-id.id (length c.as_slice-count.result.now)
          same.0 (ap (λ (l : List Part). length l) (c.as_slice-count.ensures ∙ same.1)) c.push_back_reserved.ensures.items refl,
    )
