use Rattle.std.proofs.Common.{◌≡◌, ◌∙◌, arith, ap, replicate}
use Rattle.vd_state.specs.Kept.{new_queue}
use Rattle.vd_state.proofs.Changes.{new_stands}
use Rattle.vd_state.proofs.Counts.{new_within}
use Rattle.vd_state.proofs.state.State.new.Goals as goal

pub returns-clause-stands : goal.returns-clause-stands
returns-clause-stands c =
    let all_made : c.loop-index._index ≡ c.args.queues = omega arith in
    new_stands c.args.queues c.args.offered _ (c.loop-index.invariant ∙ ap (λ n. replicate n (new_queue 0)) all_made)

pub returns-clause-counts : goal.returns-clause-counts
returns-clause-counts c =
    let all_made : c.loop-index._index ≡ c.args.queues = omega arith in
    new_within c.args.queues c.args.offered _ (c.loop-index.invariant ∙ ap (λ n. replicate n (new_queue 0)) all_made)
