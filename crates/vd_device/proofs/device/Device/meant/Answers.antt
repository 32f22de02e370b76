use Rattle.std.proofs.Common.{ap, Some}
use Rattle.vd_model.specs.NodeTurns.{ioctl_turn}
use Rattle.vd_raw.specs.Seen.{seen_as}
use Rattle.vd_answers.proofs.Telling.{tells_as, tells_ok, may_tell_as}
use Rattle.vd_device.proofs.Turns.{area_only, memory_tells}
use Rattle.vd_device.proofs.device.Device.meant.Goals as goal

pub returns-in-Node-clause-line : goal.returns-in-Node-clause-line
returns-in-Node-clause-line g c = λ x made acts s. tells_ok (tells_as (ap (λ m. ioctl_turn x made acts (Some (seen_as m))) c.in-Node.is) (c.plain_node.ensures.line x made acts s))

pub returns-in-Area-clause-line : goal.returns-in-Area-clause-line
returns-in-Area-clause-line g c = λ x made acts s. may_tell_as (ap (λ m. ioctl_turn x made acts (Some (seen_as m))) c.in-Area.is)
    (memory_tells c.area_line.new.self c.area_line.result (area_only x acts c.in-Area.step) s (c.area_line.ensures.line x acts s.memory))

pub returns-in-Entry-clause-line : goal.returns-in-Entry-clause-line
returns-in-Entry-clause-line g c = λ x made acts s. tells_ok (tells_as (ap (λ m. ioctl_turn x made acts (Some (seen_as m))) c.in-Entry.is) (c.tell_entry.ensures.line x made acts c.args.pool.now s))

pub returns-in-Info-clause-line : goal.returns-in-Info-clause-line
returns-in-Info-clause-line g c = λ x made acts s. tells_ok (tells_as (ap (λ m. ioctl_turn x made acts (Some (seen_as m))) c.in-Info.is) (c.tell_info.ensures.line x made acts c.args.pool.now s))

pub returns-in-Features-clause-line : goal.returns-in-Features-clause-line
returns-in-Features-clause-line g c = λ x made acts s. tells_ok (tells_as (ap (λ m. ioctl_turn x made acts (Some (seen_as m))) c.in-Features.is) (c.tell_features.ensures.line x made acts c.args.pool.now s))
