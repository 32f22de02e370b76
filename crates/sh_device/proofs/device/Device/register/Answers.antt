use Rattle.std.proofs.Common.{arith, reverse, replicate, subst}
use Rattle.std.specs.Prelude.{Some}
use Rattle.sh_cells.specs.declared.word.Side.TheVariants.{Second}
use Rattle.sh_cells.specs.Passes.{view}
use Rattle.sh_parts.specs.declared.entry.DomainAnswer.{DomainAnswer}
use Rattle.sh_parts.specs.declared.entry.DomainStep.TheVariants.{Register}
use Rattle.sh_parts.specs.Legal.{domain_acts}
use Rattle.sh_device.specs.Spans.{Switches}
use Rattle.sh_device.specs.Calls.{IsDomainNote}
use Rattle.sh_device.proofs.Going.{goes_switches}
use Rattle.sh_device.proofs.Mapped.{register_done}
use Rattle.sh_device.proofs.device.Device.register.Goals as goal

pub adopt_pages-requires-clause-left : goal.adopt_pages-requires-clause-left
adopt_pages-requires-clause-left g c = omega (arith, c.requires.left, c.self.invariant.1)

pub adopt_pages-requires-clause-inside : goal.adopt_pages-requires-clause-inside
adopt_pages-requires-clause-inside g c =
    let i = c.self.invariant in
    (omega (arith, i.0, i.1, i.2), omega (arith, i.1, i.2, i.3))

pub returns-clause-goes : goal.returns-clause-goes
returns-clause-goes g c = goes_switches _ _ 0 (replicate c.self.inside.bounce_pages (Some Second)) c.adopt_pages.ensures.switches

pub returns-clause-noted : goal.returns-clause-noted
returns-clause-noted g c =
    let x = g.N.Naming.numbers in
    let n = c.in_ok-value.ensures in
    subst (λ (a : DomainAnswer). IsDomainNote x c.in_ok-value.field-0.note Register a) (register_done x (domain_acts x (reverse n.before)) c.in_ok-value.field-0.value n.right c.in_default.not-Err) n

pub returns-clause-switches : goal.returns-clause-switches
returns-clause-switches g c = subst (λ n. Switches (view c.args.pass.now) 0 (replicate n (Some Second)) (view c.adopt_pages.new.pass)) c.self.invariant.1 c.adopt_pages.ensures.switches

pub returns-in-Err-clause-noted : goal.returns-in-Err-clause-noted
returns-in-Err-clause-noted g c =
    subst (λ (a : DomainAnswer). IsDomainNote g.N.Naming.numbers c.in_ok-value.field-0.note Register a) c.in-Err.is c.in_ok-value.ensures
