use Rattle.std.proofs.Common.{◌++◌, List, Option, Ok, ap, ◌∙◌, arith}
use Rattle.std.proofs.Math.Logic.{∥∥₁_map}
use Rattle.vd_model.specs.declared.parts.Chain.{Chain}
use Rattle.vd_model.specs.declared.parts.Part.{Part}
use Rattle.vr_pair.specs.QueueLists.{with_taken}
use Rattle.vr_split_pair.specs.State.{memory_of, sides_of}
use Rattle.vr_split_pair.proofs.Safe.{next_sound, none_waits, one_waits, number_is, takeable, same_memory}
use Rattle.vr_split_pair.proofs.Moves.{same_entry, moved_taken}
use Rattle.vr_split_pair.proofs.pair.SplitPairPair.next.Goals as goal

pub front-requires : goal.front-requires
front-requires c =
    let s = sides_of c.args.self.now.memory c.args.self.now.driver c.args.self.now.device c.args.self.now.chains in
    next_sound s c.args.self.now.stood

pub returns-in_default-clause-lists : goal.returns-in_default-clause-lists
returns-in_default-clause-lists c = λ q h.
    let s = sides_of c.args.self.now.memory c.args.self.now.driver c.args.self.now.device c.args.self.now.chains in
    let test = c.in_ok-chain.ensures.chain ∙ ap (λ (o : Option Chain). Ok o) c.in_default.is in
    (none_waits s q h test, same_memory s (memory_of c.front.new.memory) q c.in_ok-chain.ensures.memory h)

pub index-number-requires : goal.index-number-requires
index-number-requires c =
    let s = sides_of c.args.self.now.memory c.args.self.now.driver c.args.self.now.device c.args.self.now.chains in
    let test = c.in_ok-chain.ensures.chain ∙ ap (λ (o : Option Chain). Ok o) c.in-Some.is in
    let within = (takeable s c.in-Some.chain test c.args.self.now.stood).within in
    let joined = c.args.self.now.chains.numbers.ok in
    omega (arith, within, joined.0)

pub push_back_reserved-requires : goal.push_back_reserved-requires
push_back_reserved-requires c =
    let s = sides_of c.args.self.now.memory c.args.self.now.driver c.args.self.now.device c.args.self.now.chains in
    let test = c.in_ok-chain.ensures.chain ∙ ap (λ (o : Option Chain). Ok o) c.in-Some.is in
    let less = (takeable s c.in-Some.chain test c.args.self.now.stood).room in
    let room = c.args.self.now.room_for_taken in
    let joined = c.args.self.now.chains.taken.ok in
    omega (arith, less, room, joined.0)

pub invariant_of-self-2-clause-room_for_taken : goal.invariant_of-self-2-clause-room_for_taken
invariant_of-self-2-clause-room_for_taken c =
    let room = c.args.self.now.room_for_taken in
    let same = c.push_back_reserved.ensures.capacity in
    omega (arith, room, same)

pub invariant_of-self-2-clause-stood : goal.invariant_of-self-2-clause-stood
invariant_of-self-2-clause-stood c =
    let s = sides_of c.args.self.now.memory c.args.self.now.driver c.args.self.now.device c.args.self.now.chains in
    let test = c.in_ok-chain.ensures.chain ∙ ap (λ (o : Option Chain). Ok o) c.in-Some.is in
    ∥∥₁_map c.args.self.now.stood (λ r.
    let w = one_waits s r.lists r.stands c.in-Some.chain test in
    let within = (takeable s c.in-Some.chain test c.args.self.now.stood).within in
    record {
      lists = with_taken r.lists w.chain w.rest;
      stands = moved_taken s r.lists r.stands c.in-Some.chain w (memory_of c.accept.new.memory) c.accept.new.device c.index-number.result.now c.push_back_reserved.new.self.items (record {
        memory_is = c.accept.ensures.memory ∙ c.in_ok-chain.ensures.memory;
        device_is = c.accept.ensures.device;
        number_is = c.index-number.ensures ∙ same_entry c.args.self.now.chains.numbers.items c.in-Some.chain.head c.index-number.result.now 0 within;
        taken_is = c.push_back_reserved.ensures.items;
      });
    })

pub returns-clause-lists : goal.returns-clause-lists
returns-clause-lists c = λ q h.
    let s = sides_of c.args.self.now.memory c.args.self.now.driver c.args.self.now.device c.args.self.now.chains in
    let test = c.in_ok-chain.ensures.chain ∙ ap (λ (o : Option Chain). Ok o) c.in-Some.is in
    let w = one_waits s q h c.in-Some.chain test in
    let number = c.index-number.ensures ∙ same_entry c.args.self.now.chains.numbers.items c.in-Some.chain.head c.index-number.result.now 0 (takeable s c.in-Some.chain test c.args.self.now.stood).within in
    let copied = c.in_ok-copy.ensures ∙ ap (λ (l : List Part). l ++ c.as_slice.result.now) c.clear.ensures ∙ c.as_slice.ensures ∙ w.parts in (
      w.chain,
      w.rest,
      w.first,
      number ∙ number_is s q h c.in-Some.chain w,
      copied,
      moved_taken s q h c.in-Some.chain w (memory_of c.accept.new.memory) c.accept.new.device c.index-number.result.now c.push_back_reserved.new.self.items (record {
        memory_is = c.accept.ensures.memory ∙ c.in_ok-chain.ensures.memory;
        device_is = c.accept.ensures.device;
        number_is = number;
        taken_is = c.push_back_reserved.ensures.items;
      }),
    )
