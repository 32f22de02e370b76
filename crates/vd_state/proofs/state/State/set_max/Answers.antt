use Rattle.std.proofs.Common.{arith}
use Rattle.vd_state.specs.Inside.{kept_of}
use Rattle.vd_state.proofs.Changes.{max_stands, is_found, stands_with, stands_inside}
use Rattle.vd_state.proofs.Counts.{counts_inside, old_kicks, old_interrupts, old_generation, within_set}
use Rattle.vd_state.proofs.state.State.set_max.Goals as goal

pub returns-clause-does : goal.returns-clause-does
returns-clause-does c = λ made done s.
    let inner = stands_inside c.self.view_is s in (
      is_found made done (kept_of c.self.inside) inner c.args.index c.in_ok-queue.queue c.in_ok-queue.ensures.ok,
      stands_with (kept_of c.self.inside) c.replace.ensures.items (max_stands made done (kept_of c.self.inside) inner c.args.index c.in_ok-queue.queue c.in_ok-queue.ensures.ok c.args.max),
    )

pub returns-clause-counts : goal.returns-clause-counts
returns-clause-counts c = λ most w.
    let inner = counts_inside c.self.view_is w in
    within_set most (kept_of c.self.inside) inner most c.args.index (record c.in_ok-queue.queue { max = c.args.max }) c.replace.new.queues.items c.replace.ensures.items (omega arith)
    (old_kicks most (kept_of c.self.inside) inner c.args.index c.in_ok-queue.queue c.in_ok-queue.ensures.ok) (old_interrupts most (kept_of c.self.inside) inner c.args.index c.in_ok-queue.queue c.in_ok-queue.ensures.ok)
    (old_generation most (kept_of c.self.inside) inner c.args.index c.in_ok-queue.queue c.in_ok-queue.ensures.ok)
