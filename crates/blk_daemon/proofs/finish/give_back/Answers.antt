use Rattle.std.proofs.Common.{◌≡◌, List, Option, Some, None, Err, ap, subst, ◌∙◌}
use Rattle.std.specs.Prelude.{IfSome}
use Rattle.std.proofs.lemmas.Result.{err_from_is_err_and}
use Rattle.vd_model.specs.declared.parts.Part.{Part}
use Rattle.vd_model.specs.declared.parts.Chain.{Chain}
use Rattle.vd_model.specs.Queues.{Execution}
use Rattle.vr_device.specs.Side.{Side}
use Rattle.vr_device.specs.Device.{with_used, interrupt}
use Rattle.blk_daemon.specs.Finished.{first_unwritable, spread_over, answer_bytes, finished_memory}
use Rattle.blk_daemon.proofs.FinishLemmas.{deciding_fails, all_there, push_works, decided, faulted}
use Rattle.blk_daemon.proofs.finish.give_back.Goals as goal

pub returns-in_err-should_interrupt-clause-finished : goal.returns-in_err-should_interrupt-clause-finished
returns-in_err-should_interrupt-clause-finished g c end executed m told =
    let p = err_from_is_err_and c.from_residual-in_err-should_interrupt.result c.from_residual-in_err-should_interrupt.ensures.1 in
    let side = c.args.ring.now in
    let h = c.args.request.now.hand in
    let parts = c.as_slice-parts.ensures ∙ ap (λ (chain : Chain). chain.parts) c.chain.ensures in
    let none = subst (λ (ps : List Part). first_unwritable m ps ≡ None) parts (c.in_ok-check_parts.ensures.there m told) in
    let second = c.in_ok-check_parts.ensures.memory.same_told ∙ told in
    let third = c.in_ok-check_used.ensures.memory.same_told ∙ second in
    faulted m side c.args.event_idx h end _ c.in_err-should_interrupt.field-0.0.at _ (p.1 ∙ ap Err p.2)
    (deciding_fails m side c.args.event_idx h.parts c.in_err-should_interrupt.field-0.0 none (c.in_ok-check_used.ensures.checked m second) (c.in_err-should_interrupt.ensures.wanted m third))
    (c.in_err-should_interrupt.ensures.memory.same_told ∙ third)

pub returns-in_err-push_used-clause-finished : goal.returns-in_err-push_used-clause-finished
returns-in_err-push_used-clause-finished g c end executed m told =
    let second = c.in_ok-check_parts.ensures.memory.same_told ∙ told in
    let third = c.in_ok-check_used.ensures.memory.same_told ∙ second in
    let fourth = c.in_ok-should_interrupt.ensures.memory.same_told ∙ third in
    let spread = c.in_ok-spread.ensures.spread m fourth (c.in_ok-check_parts.ensures.there m told) in
    absurd (push_works m c.args.ring.now c.as_slice-parts.result.now c.answer.result.now c.in_err-push_used.field-0.0.at (c.in_ok-check_used.ensures.checked m second) (c.in_err-push_used.ensures.pushed _ spread).0)

pub returns-clause-finished : goal.returns-clause-finished
returns-clause-finished g c end executed m told =
    let side = c.args.ring.now in
    let h = c.args.request.now.hand in
    let parts = c.as_slice-parts.ensures ∙ ap (λ (chain : Chain). chain.parts) c.chain.ensures in
    let none = subst (λ (ps : List Part). first_unwritable m ps ≡ None) parts (c.in_ok-check_parts.ensures.there m told) in
    let second = c.in_ok-check_parts.ensures.memory.same_told ∙ told in
    let third = c.in_ok-check_used.ensures.memory.same_told ∙ second in
    let fourth = c.in_ok-should_interrupt.ensures.memory.same_told ∙ third in
    let fields = c.in_ok-check_used.ensures.checked m second in
    let wanted = c.in_ok-should_interrupt.ensures.wanted m third in
    let spread = c.in_ok-spread.ensures.spread m fourth (c.in_ok-check_parts.ensures.there m told) in
    let answer = subst (λ (o : Option Execution). IfSome o (λ end. c.answer.result.now ≡ answer_bytes end)) executed c.answer.ensures.bytes in
    let head = ap (λ (chain : Chain). chain.head) c.chain-2.ensures in
    let stored : g.M.Mem.told c.push_used.new.mem ≡ Some (finished_memory m side h end) =
    (c.in_ok-push_used.ensures.pushed _ spread).1 ∙ (λ i. Some (with_used (spread_over m (parts i) (answer i)) side (head i) (c.len-len.ensures i))) in
    record {
      tested = all_there m side c.args.event_idx h.parts c.in_ok-should_interrupt.field-0 none fields wanted;
      stored = c.should_interrupt-2.ensures.memory.same_told ∙ stored;
      irq = decided m side c.args.event_idx c.in_ok-should_interrupt.field-0 h end c.should_interrupt-2.result c.unwrap_or-irq.result wanted
          (c.should_interrupt-2.ensures.wanted (finished_memory m side h end) stored ∙ ap (λ (s : Side). interrupt (finished_memory m side h end) s c.args.event_idx) c.in_ok-push_used.ensures.moved)
          c.unwrap_or-irq.ensures;
    }
