use Rattle.std.proofs.Common.{arith}
use Rattle.std.proofs.lemmas.Grind.{common_steps}
use Rattle.std.proofs.lemmas.List.Edits.{map_over_more}
use Rattle.vd_state.specs.Kept.{queue_after_reset}
use Rattle.vd_state.proofs.queue.clear_all.Goals as goal

pub loop-queue-preserved : goal.loop-queue-preserved
loop-queue-preserved c = grind (arith, common_steps, map_over_more queue_after_reset, c.cleared.ensures)
