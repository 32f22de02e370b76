use Rattle.std.proofs.Common.{length, sym, ap, arith, refl}
use Rattle.std.proofs.Math.Logic.{∥∥₁_map}
use Rattle.vr_driver.specs.Side.{DriverSide}
use Rattle.vr_pair.specs.QueueLists.{with_added}
use Rattle.vr_split_pair.specs.State.{memory_of, sides_of}
use Rattle.vr_split_pair.proofs.Safe.{in_order, in_reach, head_low, room_is}
use Rattle.vr_split_pair.proofs.Moves.{each-word, moved_added}
use Rattle.vr_split_pair.proofs.pair.SplitPairPair.add.Goals as goal

pub place-requires-clause-in_reach : goal.place-requires-clause-in_reach
place-requires-clause-in_reach c =
    let s = sides_of c.args.self.now.memory c.args.self.now.driver c.args.self.now.device c.args.self.now.chains in
    in_reach s c.args.self.now.stood

pub index_mut-requires : goal.index_mut-requires
index_mut-requires c =
    let s = sides_of c.args.self.now.memory c.args.self.now.driver c.args.self.now.device c.args.self.now.chains in
    let within = head_low s (length c.args.parts.now) c.requires.some c.in-Ok.ensures.room c.args.self.now.stood in
    let head = c.in-Ok.ensures.head in
    let joined = c.args.self.now.chains.numbers.ok in
    omega (arith, within, head, joined.0)

pub overflow_add-self : goal.overflow_add-self
overflow_add-self c =
    let s = sides_of c.args.self.now.memory c.args.self.now.driver c.args.self.now.device c.args.self.now.chains in
    let order = in_order s c.args.self.now.stood in
    let room = c.requires.room in
    omega (arith, order.few, room)

pub invariant_of-self-2-clause-room_for_taken : goal.invariant_of-self-2-clause-room_for_taken
invariant_of-self-2-clause-room_for_taken c =
    let room = c.args.self.now.room_for_taken in
    let size = ap (λ (d : DriverSide). d.place.size) c.in-Ok.ensures.driver in
    omega (arith, room, size)

pub invariant_of-self-2-clause-stood : goal.invariant_of-self-2-clause-stood
invariant_of-self-2-clause-stood c =
    let s = sides_of c.args.self.now.memory c.args.self.now.driver c.args.self.now.device c.args.self.now.chains in
    ∥∥₁_map c.args.self.now.stood (λ r. record {
      lists = with_added r.lists c.args.parts.now;
      stands = moved_added s r.lists c.args.parts.now (memory_of c.place.new.memory) c.place.new.driver c.in-Ok.head (length c.args.parts.now) r.stands (record {
        some = c.requires.some;
        room = c.in-Ok.ensures.room;
        ordered = c.requires.readable_first;
        bytes = c.requires.bytes;
        words = each-word c.args.parts.now c.in-Ok.ensures.words;
        bound = c.requires.room;
      }) (record {
        memory_is = c.in-Ok.ensures.memory;
        driver_is = c.in-Ok.ensures.driver;
        head_is = c.in-Ok.ensures.head;
        count_is = refl;
      });
    })

pub returns-clause-lists : goal.returns-clause-lists
returns-clause-lists c = λ q h.
    let s = sides_of c.args.self.now.memory c.args.self.now.driver c.args.self.now.device c.args.self.now.chains in
    let stands = moved_added s q c.args.parts.now (memory_of c.place.new.memory) c.place.new.driver c.in-Ok.head (length c.args.parts.now) h (record {
      some = c.requires.some;
      room = c.in-Ok.ensures.room;
      ordered = c.requires.readable_first;
      bytes = c.requires.bytes;
      words = each-word c.args.parts.now c.in-Ok.ensures.words;
      bound = c.requires.room;
    }) (record {
      memory_is = c.in-Ok.ensures.memory;
      driver_is = c.in-Ok.ensures.driver;
      head_is = c.in-Ok.ensures.head;
      count_is = refl;
    }) in
    (sym h.counts.added, room_is s q h (length c.args.parts.now) c.in-Ok.ensures.room, stands)
