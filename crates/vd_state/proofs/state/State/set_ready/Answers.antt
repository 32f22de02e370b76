use Rattle.std.proofs.Common.{◌+◌, arith, ap, not}
use Rattle.vd_state.specs.Inside.{kept_of}
use Rattle.vd_state.proofs.Changes.{ready_stands, is_found, stands_with, stands_inside}
use Rattle.vd_state.proofs.Counts.{counts_inside, old_kicks, old_interrupts, old_generation, within_set, at_most_one}
use Rattle.vd_state.proofs.state.State.set_ready.Goals as goal

pub returns-clause-does : goal.returns-clause-does
returns-clause-does c = λ made done s.
    let inner = stands_inside c.self.view_is s in (
      is_found made done (kept_of c.self.inside) inner c.args.index c.in_ok-queue.queue c.in_ok-queue.ensures.ok,
      stands_with (kept_of c.self.inside) c.replace.ensures.items (ready_stands made done (kept_of c.self.inside) inner c.args.index c.in_ok-queue.queue c.in_ok-queue.ensures.ok c.args.ready (c.in_ok-queue.queue.generation + c.from.result) (ap (λ m. c.in_ok-queue.queue.generation + m) c.from.ensures)),
    )

pub returns-clause-counts : goal.returns-clause-counts
returns-clause-counts c = λ most w.
    let inner = counts_inside c.self.view_is w in
    let a = old_kicks most (kept_of c.self.inside) inner c.args.index c.in_ok-queue.queue c.in_ok-queue.ensures.ok in
    let b = old_interrupts most (kept_of c.self.inside) inner c.args.index c.in_ok-queue.queue c.in_ok-queue.ensures.ok in
    let g = old_generation most (kept_of c.self.inside) inner c.args.index c.in_ok-queue.queue c.in_ok-queue.ensures.ok in
    let one = at_most_one (not c.args.ready) c.from.result c.from.ensures in
    within_set most (kept_of c.self.inside) inner (most + 1) c.args.index (record c.in_ok-queue.queue { ready = c.args.ready; generation = c.in_ok-queue.queue.generation + c.from.result })
    c.replace.new.queues.items c.replace.ensures.items (omega arith) (omega arith) (omega arith) (omega arith)
