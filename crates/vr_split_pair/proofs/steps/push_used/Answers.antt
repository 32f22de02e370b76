use Rattle.std.proofs.Common.{◌≡◌, Some, refl}
use Rattle.vr_device.specs.Device.{with_used}
use Rattle.vr_split_pair.specs.State.{memory_of}
use Rattle.vr_split_pair.proofs.steps.push_used.Goals as goal

pub returns-clause-memory : goal.returns-clause-memory
returns-clause-memory c =
    let pushed = c.in-Ok.ensures.pushed (memory_of c.args.memory.now) refl in
    let written : Some (memory_of c.push_used.new.mem) ≡ Some (with_used (memory_of c.args.memory.now) c.args.device.now c.args.head c.args.len) = pushed.1 in
    cc written
