use Rattle.std.proofs.Common.{◌≡◌, length, Some, ap, subst, ◌∙◌}
use Rattle.std.proofs.lemmas.List.{with_items_is}
use Rattle.vd_model.specs.Block.{Block, block_of}
use Rattle.blk_daemon.specs.Held.{InHand, outcome_in}
use Rattle.blk_daemon.specs.Executed.{Executes}
use Rattle.blk_daemon.proofs.request.Request.execute.Goals as goal

pub returns-clause-executed : goal.returns-clause-executed
returns-clause-executed g c =
    let device = c.args.device.now in
    let hand = ap (λ (r : InHand). r.hand) c.self.view_is in
    let bytes : c.deref.result.now ≡ c.args.self.now.hand.bytes = c.deref.ensures.value ∙ ap (λ (r : InHand). r.hand.bytes) c.self.view_is in
    let room : length c.deref_mut.result.now ≡ c.args.self.now.hand.writable =
    ap length c.deref_mut.ensures.value ∙ c.self.invariant.written ∙ ap (λ (r : InHand). r.hand.writable) c.self.view_is in
    let items = with_items_is c.self.inside.answer c.execute-executed.new.into (c.execute-executed.auto.into ∙ c.deref_mut.ensures.len) in (
      outcome_in c.execute-executed.new.into,
      λ i. record { hand = hand i; outcome = Some (outcome_in (items i)) },
      c.execute-executed.ensures.status,
      subst (λ (b : Block). Executes g.I.Image.content g.I.Image.faults g.I.Image.flushes device.window device.offered device.name.now b c.execute-executed.result.failed c.args.disk.now c.execute-executed.new.disk (outcome_in c.execute-executed.new.into))
          (λ i. block_of (bytes i) (room i)) c.execute-executed.ensures.executed,
    )
