use Rattle.std.proofs.Common.{ℕ, List, ap, sym, ◌∙◌}
use Rattle.vd_num.specs.declared.number.Range.{Range}
use Rattle.vd_model.specs.Acts.{Node}
use Rattle.vd_model.specs.Turn.{lift}
use Rattle.vd_model.specs.AreaTurns.{area_turn, areaput_turn, found_or, lookup_turn, iovainfo_turn}
use Rattle.vd_answers.proofs.Telling.{tells_as}
use Rattle.vd_memory_lines.proofs.memory.Memory.frugal_area_line.Goals as goal

pub returns-in-Lookup-clause-line : goal.returns-in-Lookup-clause-line
returns-in-Lookup-clause-line g c = λ x acts s. tells_as (ap (λ t. lift Node (area_turn x acts t)) c.in-Lookup.is ∙ ap (λ (r : Range). lift Node (found_or x acts r.start r.last lookup_turn)) (sym c.range.ensures)) (c.lookup.ensures.line x acts c.args.pool.now s)

pub returns-in-IovaInfo-clause-line : goal.returns-in-IovaInfo-clause-line
returns-in-IovaInfo-clause-line g c = λ x acts s. tells_as (ap (λ t. lift Node (area_turn x acts t)) c.in-IovaInfo.is ∙ ap (λ (r : Range). lift Node (found_or x acts r.start r.last iovainfo_turn)) (sym c.range-in-IovaInfo.ensures)) (c.iovainfo.ensures.line x acts c.args.pool.now s)

pub returns-in-AreaPut-clause-line : goal.returns-in-AreaPut-clause-line
returns-in-AreaPut-clause-line g c = λ x acts s. tells_as (ap (λ t. lift Node (area_turn x acts t)) c.in-AreaPut.is ∙ ap (λ (l : List ℕ). lift Node (areaput_turn acts c.in-AreaPut.offset l)) (sym c.as_slice.ensures)) (c.areaput.ensures.line x acts c.args.pool.now s)
