use Rattle.std.proofs.Common.{arith}
use Rattle.vd_state.specs.Inside.{kept_of}
use Rattle.vd_state.proofs.Counts.{counts_inside, old_kicks, old_interrupts, old_generation, within_set}
use Rattle.vd_state.proofs.state.State.set_queue_callback.Goals as goal

pub returns-clause-counts : goal.returns-clause-counts
returns-clause-counts c = λ most w.
    let inner = counts_inside c.self.view_is w in
    let a = old_kicks most (kept_of c.self.inside) inner c.args.index c.in_ok-queue.queue c.in_ok-queue.ensures.ok in
    let b = old_interrupts most (kept_of c.self.inside) inner c.args.index c.in_ok-queue.queue c.in_ok-queue.ensures.ok in
    let g = old_generation most (kept_of c.self.inside) inner c.args.index c.in_ok-queue.queue c.in_ok-queue.ensures.ok in
    within_set most (kept_of c.self.inside) inner most c.args.index (record c.in_ok-queue.queue { callback = c.args.on; interrupts = 0 })
    c.replace.new.queues.items c.replace.ensures.items (omega arith) (omega arith) (omega arith) (omega arith)
