use Rattle.std.proofs.Common.{◌≡◌, ◌∙◌, ◌+◌, ◌&&◌, arith, ap, sym, subst, true}
use Rattle.vd_model.specs.State.{may_have, max_of}
use Rattle.vd_state.specs.declared.queue.Queue.{Queue}
use Rattle.vd_state.specs.Inside.{kept_of}
use Rattle.vd_state.proofs.Changes.{num_stands, found_queue, is_found, stands_with, stands_inside}
use Rattle.vd_state.proofs.Counts.{counts_inside, old_kicks, old_interrupts, old_generation, within_set}
use Rattle.vd_state.proofs.state.State.set_num.Goals as goal

pub returns-clause-does : goal.returns-clause-does
returns-clause-does c = λ made done s.
    let inner = stands_inside c.self.view_is s in (
      ap (λ b. b && may_have (max_of done c.args.index) c.args.num) (is_found made done (kept_of c.self.inside) inner c.args.index c.in_ok-queue.queue c.in_ok-queue.ensures.ok) ∙ subst (λ m. may_have m c.args.num ≡ true) (ap (λ (w : Queue). w.max) (found_queue made done (kept_of c.self.inside) inner c.args.index c.in_ok-queue.queue c.in_ok-queue.ensures.ok)) (sym c.if-not-is_size.ensures),
      stands_with (kept_of c.self.inside) c.replace.ensures.items (num_stands made done (kept_of c.self.inside) inner c.args.index c.in_ok-queue.queue c.in_ok-queue.ensures.ok c.args.num),
    )

pub returns-clause-counts : goal.returns-clause-counts
returns-clause-counts c = λ most w.
    let inner = counts_inside c.self.view_is w in
    let a = old_kicks most (kept_of c.self.inside) inner c.args.index c.in_ok-queue.queue c.in_ok-queue.ensures.ok in
    let b = old_interrupts most (kept_of c.self.inside) inner c.args.index c.in_ok-queue.queue c.in_ok-queue.ensures.ok in
    let g = old_generation most (kept_of c.self.inside) inner c.args.index c.in_ok-queue.queue c.in_ok-queue.ensures.ok in
    within_set most (kept_of c.self.inside) inner (most + 1) c.args.index (record c.in_ok-queue.queue { num = c.args.num; generation = c.in_ok-queue.queue.generation + 1 })
    c.replace.new.queues.items c.replace.ensures.items (omega arith) (omega arith) (omega arith) (omega arith)
