use Rattle.std.proofs.Common.{◌≡◌, ◌<◌, ◌++◌, length, take, drop, ap, ◌∙◌, arith}
use Rattle.std.proofs.lemmas.List.{length-take-le}
use Rattle.std.proofs.lemmas.Grind.{common_steps}
use Rattle.vr_driver.specs.Side.{least_free}
use Rattle.vr_driver.proofs.FreeLemmas.{picked-below}
use Rattle.vr_driver.proofs.free.reserve.Goals as goal

pub claim-requires : goal.claim-requires
claim-requires c k d l =
    let picked = c.pick.ensures ∙ ap (least_free c.args.owners.now) (length-take-le c.args.n c.args.into.now c.requires.room) in
    picked-below c.args.owners.now c.pick.new.into c.args.n c.requires.enough picked k d l

pub bounds-announced-head : goal.bounds-announced-head
bounds-announced-head c =
    let picked = c.pick.ensures ∙ ap (least_free c.args.owners.now) (length-take-le c.args.n c.args.into.now c.requires.room) in
    let some : 0 < length c.pick.new.into = grind (arith, common_steps) in
    let below = picked-below c.args.owners.now c.pick.new.into c.args.n c.requires.enough picked 0 0 some in
    omega (arith, below)

pub returns-clause-below : goal.returns-clause-below
returns-clause-below c k d l =
    let picked = c.pick.ensures ∙ ap (least_free c.args.owners.now) (length-take-le c.args.n c.args.into.now c.requires.room) in
    let front : take c.args.n (c.pick.new.into ++ drop c.args.n c.args.into.now) ≡ c.pick.new.into = grind (arith, common_steps) in
    picked-below c.args.owners.now _ c.args.n c.requires.enough (front ∙ picked) k d l
