use Rattle.std.proofs.Common.{◌<◌, List, Option, None, take, arith, reverse, subst, length-take, ◌∙◌}
use Rattle.std.proofs.lemmas.List.{get_or-take}
use Rattle.sh_cells.specs.declared.word.Side.{Side}
use Rattle.sh_parts.specs.declared.entry.DomainAnswer.{DomainAnswer}
use Rattle.sh_parts.specs.declared.entry.DomainStep.TheVariants.{Deregister}
use Rattle.sh_parts.specs.Legal.{domain_acts}
use Rattle.sh_device.specs.Calls.{IsDomainNote}
use Rattle.sh_device.proofs.Going.{goes_switches}
use Rattle.sh_device.proofs.Mapped.{deregister_done}
use Rattle.sh_device.proofs.device.Device.deregister.Goals as goal

pub deregister_step-requires : goal.deregister_step-requires
deregister_step-requires g c =
    let i = c.self.invariant in
    (omega (arith, i.1, i.2, i.3), omega (arith, i.1, i.2, i.3))

pub switch_pages-requires-clause-left : goal.switch_pages-requires-clause-left
switch_pages-requires-clause-left g c = omega (arith, c.requires.left, c.self.invariant.1)

pub switch_pages-requires-clause-inside : goal.switch_pages-requires-clause-inside
switch_pages-requires-clause-inside g c =
    let i = c.self.invariant in
    (omega (arith, i.0, i.1, i.2), omega (arith, i.1, i.2, i.3, c.deregister_step.auto.sides))

pub returns-clause-goes : goal.returns-clause-goes
returns-clause-goes g c = goes_switches _ _ 0 (take c.self.inside.bounce_pages c.deregister_step.new.sides) c.switch_pages.ensures.switches

pub returns-clause-noted : goal.returns-clause-noted
returns-clause-noted g c =
    let x = g.N.Naming.numbers in
    let n = c.in_ok-value.ensures.noted in
    subst (λ (a : DomainAnswer). IsDomainNote x c.in_ok-value.field-0.note Deregister a) (deregister_done x (domain_acts x (reverse n.before)) c.in_ok-value.field-0.value n.right c.in_default.not-Err) n

pub returns-clause-switches : goal.returns-clause-switches
returns-clause-switches g c =
    let i = c.self.invariant in
    let count = c.self.inside.bounce_pages in
    let table : List (Option Side) = c.deregister_step.new.sides in record {
      sides = take count table;
      size = omega (arith, length-take count table, i.1, i.2, i.3, c.deregister_step.auto.sides);
      sides_are = λ page lt. let few : page < count = omega (arith, lt, i.1) in get_or-take count table page None few ∙ c.in_ok-value.ensures.sides page few;
      switches = c.switch_pages.ensures.switches;
    }

pub returns-in-Err-clause-noted : goal.returns-in-Err-clause-noted
returns-in-Err-clause-noted g c =
    subst (λ (a : DomainAnswer). IsDomainNote g.N.Naming.numbers c.in_ok-value.field-0.note Deregister a) c.in-Err.is c.in_ok-value.ensures.noted
