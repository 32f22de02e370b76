use Rattle.sh_device.proofs.Going.{goes_makes}
use Rattle.std.proofs.Common.{arith, sym, ◌∙◌, reverse, subst}
use Rattle.sh_parts.specs.declared.entry.DomainAnswer.{DomainAnswer}
use Rattle.sh_parts.specs.declared.entry.DomainStep.TheVariants as step
use Rattle.sh_parts.specs.Legal.{domain_acts}
use Rattle.sh_device.specs.Calls.{IsDomainNote}
use Rattle.sh_device.proofs.Mapped.{region_inside}
use Rattle.sh_device.proofs.device.Device.coherent.Goals as goal

pub clear_region-requires-clause-inside : goal.clear_region-requires-clause-inside
clear_region-requires-clause-inside g c =
    let x = g.N.Naming.numbers in
    let n = c.in-Ok.ensures in
    let inside = region_inside x (domain_acts x (reverse n.before)) c.args.len c.in-Mapped.number c.in-Mapped.iova (sym c.in-Mapped.is ∙ n.right) in
    (inside.0, omega (arith, inside.1, c.pages.ensures.value, c.self.invariant.0), omega (arith, inside.1, c.pages.ensures.value, c.self.invariant.2))

pub invariant_of-result : goal.invariant_of-result
invariant_of-result g c =
    let x = g.N.Naming.numbers in
    let n = c.in-Ok.ensures in
    let inside = region_inside x (domain_acts x (reverse n.before)) c.args.len c.in-Mapped.number c.in-Mapped.iova (sym c.in-Mapped.is ∙ n.right) in
    record {
      noted = subst (λ (a : DomainAnswer). IsDomainNote x c.in-Ok.noted.note (step.Coherent c.args.len) a) c.in-Mapped.is n;
      start = inside.0;
      inside = inside.1;
      even = λ e. cc;
    }

pub returns-clause-goes : goal.returns-clause-goes
returns-clause-goes g c = goes_makes _ _ _ _ c.clear_region.ensures.clears
