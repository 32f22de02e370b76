use Rattle.std.proofs.Common.{◌≡◌, ◌<◌, ◌^◌, Some, None, sym, ◌∙◌, arith}
use Rattle.std.proofs.Math.Logic.{∥∥₁_map}
use Rattle.vr_pair.specs.QueueLists.{with_used}
use Rattle.vr_split_pair.specs.Lies.{taken_of}
use Rattle.vr_split_pair.specs.State.{memory_of, sides_of}
use Rattle.vr_split_pair.proofs.Safe.{in_reach_too}
use Rattle.vr_split_pair.proofs.Finished.{taken_out}
use Rattle.vr_split_pair.proofs.Moves.{moved_unused, moved_used}
use Rattle.vr_split_pair.proofs.pair.SplitPairPair.used.Goals as goal

pub invariant_of-self-clause-stood : goal.invariant_of-self-clause-stood
invariant_of-self-clause-stood c =
    let s = sides_of c.args.self.now.memory c.args.self.now.driver c.args.self.now.device c.args.self.now.chains in
    let none : taken_of c.args.number s.taken ≡ None = sym c.take_out.ensures.result ∙ c.in_default.is in
    ∥∥₁_map c.args.self.now.stood (λ r. record { lists = r.lists; stands = (moved_unused s r.lists c.args.number c.take_out.new.taken.items none c.take_out.ensures.rest r.stands).1 })

pub returns-in_default-clause-lists : goal.returns-in_default-clause-lists
returns-in_default-clause-lists c = λ q h.
    let s = sides_of c.args.self.now.memory c.args.self.now.driver c.args.self.now.device c.args.self.now.chains in
    let none : taken_of c.args.number s.taken ≡ None = sym c.take_out.ensures.result ∙ c.in_default.is in
    moved_unused s q c.args.number c.take_out.new.taken.items none c.take_out.ensures.rest h

pub push_used-requires : goal.push_used-requires
push_used-requires c =
    let s = sides_of c.args.self.now.memory c.args.self.now.driver c.args.self.now.device c.args.self.now.chains in
    in_reach_too s c.args.self.now.stood

pub invariant_of-self-2-clause-room_for_taken : goal.invariant_of-self-2-clause-room_for_taken
invariant_of-self-2-clause-room_for_taken c =
    let room = c.args.self.now.room_for_taken in
    let same = c.take_out.ensures.room in
    omega (arith, room, same)

pub invariant_of-self-2-clause-stood : goal.invariant_of-self-2-clause-stood
invariant_of-self-2-clause-stood c =
    let s = sides_of c.args.self.now.memory c.args.self.now.driver c.args.self.now.device c.args.self.now.chains in
    let found : taken_of c.args.number s.taken ≡ Some c.in-Some.chain = sym c.take_out.ensures.result ∙ c.in-Some.is in
    let short : c.args.len < 2 ^ 32 = c.ranges.len.fits in
    ∥∥₁_map c.args.self.now.stood (λ r.
    let out = taken_out s r.lists r.stands c.args.number c.in-Some.chain found in
    record {
      lists = with_used r.lists out.chain c.args.len;
      stands = moved_used s r.lists r.stands c.args.number c.args.len c.in-Some.chain short out (memory_of c.push_used.new.memory) c.push_used.new.device c.take_out.new.taken.items (record {
        memory_is = c.push_used.ensures.memory;
        device_is = c.push_used.ensures.device;
        taken_is = c.take_out.ensures.rest;
      });
    })

pub returns-clause-lists : goal.returns-clause-lists
returns-clause-lists c = λ q h.
    let s = sides_of c.args.self.now.memory c.args.self.now.driver c.args.self.now.device c.args.self.now.chains in
    let found : taken_of c.args.number s.taken ≡ Some c.in-Some.chain = sym c.take_out.ensures.result ∙ c.in-Some.is in
    let short : c.args.len < 2 ^ 32 = c.ranges.len.fits in
    let out = taken_out s q h c.args.number c.in-Some.chain found in (
      out.chain,
      out.found,
      out.named,
      moved_used s q h c.args.number c.args.len c.in-Some.chain short out (memory_of c.push_used.new.memory) c.push_used.new.device c.take_out.new.taken.items (record {
        memory_is = c.push_used.ensures.memory;
        device_is = c.push_used.ensures.device;
        taken_is = c.take_out.ensures.rest;
      }),
    )
