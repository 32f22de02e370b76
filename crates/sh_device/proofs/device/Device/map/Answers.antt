use Rattle.sh_device.proofs.Going.{goes_hands}
use Rattle.std.proofs.Common.{arith, sym, ◌∙◌, length, reverse, subst}
use Rattle.sh_parts.specs.declared.entry.DomainAnswer.{DomainAnswer}
use Rattle.sh_parts.specs.declared.entry.DomainStep.TheVariants as step
use Rattle.sh_parts.specs.Legal.{domain_acts}
use Rattle.sh_device.specs.Calls.{IsDomainNote}
use Rattle.sh_device.proofs.Mapped.{mapped_inside}
use Rattle.sh_device.proofs.device.Device.map.Goals as goal

pub hand_all-stamp-requires-clause-inside : goal.hand_all-stamp-requires-clause-inside
hand_all-stamp-requires-clause-inside g c =
    let x = g.N.Naming.numbers in
    let len = length c.args.buffer.now in
    let right = c.in-Ok.ensures.right in
    let inside = mapped_inside x (domain_acts x (reverse c.in-Ok.ensures.before)) len c.args.dir c.in-Mapped.number c.in-Mapped.iova (sym c.in-Mapped.is ∙ right) in
    (omega (arith, inside.1, c.pages.ensures.value, c.self.invariant.0, c.self.invariant.1, c.self.invariant.2), omega (arith, inside.1, c.pages.ensures.value, c.self.invariant.1, c.self.invariant.2))

pub invariant_of-result : goal.invariant_of-result
invariant_of-result g c =
    let x = g.N.Naming.numbers in
    let len = length c.args.buffer.now in
    let n = c.in-Ok.ensures in
    let inside = mapped_inside x (domain_acts x (reverse n.before)) len c.args.dir c.in-Mapped.number c.in-Mapped.iova (sym c.in-Mapped.is ∙ n.right) in
    record {
      noted = subst (λ (a : DomainAnswer). IsDomainNote x c.in-Ok.noted.note (step.Map len c.args.dir) a) c.in-Mapped.is n;
      start = inside.0;
      inside = omega (arith, inside.1, c.self.invariant.1);
      even = λ _. c.requires.even;
    }

pub returns-clause-goes : goal.returns-clause-goes
returns-clause-goes g c = goes_hands _ _ _ _ _ _ _ c.hand_all-stamp.ensures.hands
