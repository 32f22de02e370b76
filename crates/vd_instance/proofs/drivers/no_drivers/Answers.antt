use Rattle.std.proofs.Common.{◌∷◌, ◌++◌, [], None, ap, ◌∙◌}
use Rattle.std.proofs.lemmas.List.{replicate-append-replicate}
use Rattle.vd_instance.proofs.drivers.no_drivers.Goals as goal

pub loop-queue-preserved : goal.loop-queue-preserved
loop-queue-preserved c = c.in_ok-push.ensures.items ∙ ap (λ l. l ++ None ∷ []) c.loop-queue.invariant ∙ replicate-append-replicate c.loop-queue._queue 1 None
