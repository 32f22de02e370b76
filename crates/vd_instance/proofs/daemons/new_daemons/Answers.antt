use Rattle.std.proofs.Common.{List, ◌∷◌, ◌++◌, [], ap, ◌∙◌}
use Rattle.std.proofs.lemmas.List.{replicate-append-replicate}
use Rattle.blk_daemon.specs.Held.{Held, idle}
use Rattle.vd_instance.specs.declared.daemons.HeldDaemon.{HeldDaemon}
use Rattle.vd_instance.specs.Daemons.{new_daemon}
use Rattle.vd_instance.proofs.daemons.new_daemons.Goals as goal

pub loop-queue-preserved : goal.loop-queue-preserved
loop-queue-preserved c =
    c.in_ok-push.ensures.items
    ∙ ap (λ (d : Held). c.loop-queue.daemons.items ++ record { daemon = d; ends = 0 } ∷ []) (c.new.ensures ∙ ap idle (c.from_vec-own.ensures ∙ c.in_ok-from_slice.ensures.items))
    ∙ ap (λ (l : List HeldDaemon). l ++ new_daemon c.args.name.now ∷ []) c.loop-queue.invariant
    ∙ replicate-append-replicate c.loop-queue._queue 1 (new_daemon c.args.name.now)
