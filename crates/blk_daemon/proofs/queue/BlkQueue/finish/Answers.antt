use Rattle.std.proofs.Common.{Ok, Err, refl, sym, ap, ◌∙◌}
use Rattle.std.proofs.lemmas.Result.{err_from_is_err_and}
use Rattle.std.proofs.lemmas.Option.{same_Some}
use Rattle.vd_model.specs.Creation.{has_feature}
use Rattle.blk_daemon.specs.Held.{Held, InHand}
use Rattle.blk_daemon.proofs.FinishLemmas.{finishes_by}
use Rattle.blk_daemon.proofs.queue.BlkQueue.finish.Goals as goal

pub returns-in_err-finished-clause-finished : goal.returns-in_err-finished-clause-finished
returns-in_err-finished-clause-finished g c side h end placed in_hand m told =
    let p = err_from_is_err_and c.from_residual.result c.from_residual.ensures.1 in
    let ring = same_Some _ _ (sym c.in-Some-ring.is ∙ ap (λ (q : Held). q.side) c.self.view_is ∙ placed) in
    let request = same_Some _ _ (sym c.in-Some.is ∙ ap (λ (q : Held). q.request) c.self.view_is ∙ in_hand) in
    finishes_by m _ side _ (has_feature c.args.features 29) _ h end _ c.from_residual.result _ ring c.has_feature.ensures (ap (λ (r : InHand). r.hand) request) (sym (p.1 ∙ ap Err p.2))
    (c.in_err-finished.ensures.finished end (ap (λ (r : InHand). r.outcome) request) m told)

pub returns-clause-finished : goal.returns-clause-finished
returns-clause-finished g c side h end placed in_hand m told =
    let ring = same_Some _ _ (sym c.in-Some-ring.is ∙ ap (λ (q : Held). q.side) c.self.view_is ∙ placed) in
    let request = same_Some _ _ (sym c.in-Some.is ∙ ap (λ (q : Held). q.request) c.self.view_is ∙ in_hand) in
    finishes_by m _ side _ (has_feature c.args.features 29) _ h end (Ok c.in_ok-finished.finished) (Ok c.in_ok-finished.finished) _ ring c.has_feature.ensures (ap (λ (r : InHand). r.hand) request) refl
    (c.in_ok-finished.ensures.finished end (ap (λ (r : InHand). r.outcome) request) m told)
