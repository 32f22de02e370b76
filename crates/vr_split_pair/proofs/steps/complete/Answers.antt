use Rattle.std.proofs.Common.{◌≡◌, Some, Ok, false, refl, ◌∙◌}
use Rattle.vr_driver.specs.Driver.{with_answer}
use Rattle.vr_split_pair.specs.State.{memory_of}
use Rattle.vr_split_pair.proofs.Moves.{answer_same}
use Rattle.vr_split_pair.proofs.steps.complete.Goals as goal

pub returns-clause-memory : goal.returns-clause-memory
returns-clause-memory c =
    let written : Some (memory_of c.reclaim.new.mem) ≡ Some (with_answer (memory_of c.args.memory.now) c.args.driver.now false (Ok c.in-Ok.done)) = c.in-Ok.ensures.written (memory_of c.args.memory.now) refl in
    let same : memory_of c.reclaim.new.mem ≡ with_answer (memory_of c.args.memory.now) c.args.driver.now false (Ok c.in-Ok.done) = cc written in
    same ∙ answer_same (memory_of c.args.memory.now) c.args.driver.now c.in-Ok.done
