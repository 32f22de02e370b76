use Rattle.std.proofs.Common.{◌∙◌, ◌+◌, arith, ap, set}
use Rattle.vd_state.specs.Inside.{kept_of}
use Rattle.vd_state.specs.Kept.{queue_after_kick}
use Rattle.vd_state.proofs.Changes.{kick_stands, is_found, stands_with, stands_inside}
use Rattle.vd_state.proofs.Counts.{counts_inside, old_kicks, old_interrupts, old_generation, within_set, queue_after_kick_within}
use Rattle.vd_state.proofs.state.State.kick.Goals as goal

pub returns-clause-does : goal.returns-clause-does
returns-clause-does c = λ made done s.
    let inner = stands_inside c.self.view_is s in (
      is_found made done (kept_of c.self.inside) inner c.args.index c.in_ok-queue.queue c.in_ok-queue.ensures.ok,
      stands_with (kept_of c.self.inside) (c.replace.ensures.items ∙ ap (set c.self.inside.queues.items c.args.index) c.kicked.ensures) (kick_stands made done (kept_of c.self.inside) inner c.args.index c.in_ok-queue.queue c.in_ok-queue.ensures.ok),
    )

pub returns-clause-counts : goal.returns-clause-counts
returns-clause-counts c = λ most w.
    let inner = counts_inside c.self.view_is w in
    let a = old_kicks most (kept_of c.self.inside) inner c.args.index c.in_ok-queue.queue c.in_ok-queue.ensures.ok in
    let b = old_interrupts most (kept_of c.self.inside) inner c.args.index c.in_ok-queue.queue c.in_ok-queue.ensures.ok in
    let g = old_generation most (kept_of c.self.inside) inner c.args.index c.in_ok-queue.queue c.in_ok-queue.ensures.ok in
    let more = queue_after_kick_within most c.in_ok-queue.queue a b g in
    within_set most (kept_of c.self.inside) inner (most + 1) c.args.index (queue_after_kick c.in_ok-queue.queue) c.replace.new.queues.items (c.replace.ensures.items ∙ ap (set c.self.inside.queues.items c.args.index) c.kicked.ensures) (omega arith) more.0 more.1 more.2
