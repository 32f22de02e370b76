use Rattle.std.proofs.Common.{ap, ◌∙◌, arith}
use Rattle.std.proofs.Math.Logic.{∥∥₁_map}
use Rattle.vr_driver.specs.Side.{DriverSide}
use Rattle.vr_split_pair.specs.State.{memory_of, sides_of}
use Rattle.vr_split_pair.proofs.Safe.{in_reach, done_sound, done_low, none_used, one_used, used_number_is, same_driver}
use Rattle.vr_split_pair.proofs.Moves.{same_entry, reclaimed_place, stood_reclaimed, moved_reclaimed}
use Rattle.vr_split_pair.proofs.pair.SplitPairPair.reclaim.Goals as goal

pub complete-requires-clause-in_reach : goal.complete-requires-clause-in_reach
complete-requires-clause-in_reach c =
    let s = sides_of c.args.self.now.memory c.args.self.now.driver c.args.self.now.device c.args.self.now.chains in
    in_reach s c.args.self.now.stood

pub complete-requires-clause-sound : goal.complete-requires-clause-sound
complete-requires-clause-sound c =
    let s = sides_of c.args.self.now.memory c.args.self.now.driver c.args.self.now.device c.args.self.now.chains in
    done_sound s c.args.self.now.stood

pub invariant_of-self-clause-room_for_taken : goal.invariant_of-self-clause-room_for_taken
invariant_of-self-clause-room_for_taken c =
    let room = c.args.self.now.room_for_taken in
    let place = ap (λ (d : DriverSide). d.place) c.complete.ensures.driver ∙ reclaimed_place c.args.self.now.driver c.complete.result in
    let size = ap (λ p. p.size) place in
    omega (arith, room, size)

pub invariant_of-self-clause-stood : goal.invariant_of-self-clause-stood
invariant_of-self-clause-stood c =
    let s = sides_of c.args.self.now.memory c.args.self.now.driver c.args.self.now.device c.args.self.now.chains in
    ∥∥₁_map c.args.self.now.stood (λ r. stood_reclaimed s c.complete.result (memory_of c.complete.new.memory) c.complete.new.driver c.complete.ensures.done c.complete.ensures.driver c.complete.ensures.memory r)

pub returns-in_err-done-clause-lists : goal.returns-in_err-done-clause-lists
returns-in_err-done-clause-lists c = λ q h.
    let s = sides_of c.args.self.now.memory c.args.self.now.driver c.args.self.now.device c.args.self.now.chains in
    let e = c.in_err-done.ensures in
    rw c.from_residual.ensures (none_used s q h e.done, same_driver s (memory_of c.complete.new.memory) c.complete.new.driver q e.memory e.driver h)

pub index-requires : goal.index-requires
index-requires c =
    let s = sides_of c.args.self.now.memory c.args.self.now.driver c.args.self.now.device c.args.self.now.chains in
    let within = done_low s c.in_ok-done.done c.in_ok-done.ensures.done c.args.self.now.stood in
    let joined = c.args.self.now.chains.numbers.ok in
    omega (arith, within, joined.0)

pub returns-clause-lists : goal.returns-clause-lists
returns-clause-lists c = λ q h.
    let s = sides_of c.args.self.now.memory c.args.self.now.driver c.args.self.now.device c.args.self.now.chains in
    let e = c.in_ok-done.ensures in
    let u = one_used s q h c.in_ok-done.done e.done in
    let within = done_low s c.in_ok-done.done e.done c.args.self.now.stood in
    let number = c.index.ensures ∙ same_entry c.args.self.now.chains.numbers.items c.in_ok-done.done.head c.index.result.now 0 within in
    (u.finished, u.rest, u.first, number ∙ used_number_is s q h c.in_ok-done.done u, u.len, moved_reclaimed s q h c.in_ok-done.done u (memory_of c.complete.new.memory) c.complete.new.driver e.memory e.driver)
