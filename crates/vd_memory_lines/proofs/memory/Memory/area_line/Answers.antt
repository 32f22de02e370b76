use Rattle.std.proofs.Common.{ap}
use Rattle.vd_model.specs.Acts.{Node}
use Rattle.vd_model.specs.Turn.{lift}
use Rattle.vd_model.specs.AreaTurns.{area_turn}
use Rattle.vd_answers.proofs.Telling.{may_tell_as}
use Rattle.vd_memory_lines.proofs.memory.Memory.area_line.Goals as goal

pub returns-in-Area-clause-line : goal.returns-in-Area-clause-line
returns-in-Area-clause-line g c = λ x acts s. may_tell_as (ap (λ t. lift Node (area_turn x acts t)) c.in-Area.is) (c.area.ensures.line x acts c.args.pool.now s)

pub returns-in-AreaGet-clause-line : goal.returns-in-AreaGet-clause-line
returns-in-AreaGet-clause-line g c = λ x acts s. may_tell_as (ap (λ t. lift Node (area_turn x acts t)) c.in-AreaGet.is) (c.areaget.ensures.line x acts c.args.pool.now s)
