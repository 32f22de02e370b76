use Rattle.std.proofs.Common.{◌∙◌, ◌+◌, arith, ap, set}
use Rattle.vd_state.specs.Inside.{kept_of}
use Rattle.vd_state.specs.Kept.{with_kick_file}
use Rattle.vd_state.proofs.Changes.{kick_file_stands, is_found, stands_with, stands_inside}
use Rattle.vd_state.proofs.Counts.{counts_inside, old_kicks, old_interrupts, old_generation, within_set, file_within}
use Rattle.vd_state.proofs.state.State.set_kick_file.Goals as goal

pub returns-clause-does : goal.returns-clause-does
returns-clause-does c = λ made done s.
    let inner = stands_inside c.self.view_is s in (
      is_found made done (kept_of c.self.inside) inner c.args.index c.in_ok-queue.queue c.in_ok-queue.ensures.ok,
      stands_with (kept_of c.self.inside) (c.replace.ensures.items ∙ ap (set c.self.inside.queues.items c.args.index) c.with_kick_file.ensures) (kick_file_stands made done (kept_of c.self.inside) inner c.args.index c.in_ok-queue.queue c.in_ok-queue.ensures.ok c.args.on),
    )

pub returns-clause-counts : goal.returns-clause-counts
returns-clause-counts c = λ most w.
    let inner = counts_inside c.self.view_is w in
    let a = old_kicks most (kept_of c.self.inside) inner c.args.index c.in_ok-queue.queue c.in_ok-queue.ensures.ok in
    let b = old_interrupts most (kept_of c.self.inside) inner c.args.index c.in_ok-queue.queue c.in_ok-queue.ensures.ok in
    let g = old_generation most (kept_of c.self.inside) inner c.args.index c.in_ok-queue.queue c.in_ok-queue.ensures.ok in
    let more = file_within most c.args.on c.in_ok-queue.queue b g in
    within_set most (kept_of c.self.inside) inner (most + 1) c.args.index (with_kick_file c.args.on c.in_ok-queue.queue) c.replace.new.queues.items (c.replace.ensures.items ∙ ap (set c.self.inside.queues.items c.args.index) c.with_kick_file.ensures) (omega arith) more.0 more.1 more.2
