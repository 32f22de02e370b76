use Rattle.sh_device.proofs.Going.{goes_brings}
use Rattle.std.proofs.Common.{ℕ, List, ◌∙◌, sym, subst}
use Rattle.sh_cells.specs.Passes.{view}
use Rattle.sh_parts.specs.declared.entry.DomainStep.TheVariants as step
use Rattle.sh_device.specs.Calls.{IsDomainNote, HeldView, Brings}
use Rattle.sh_device.proofs.device.Device.unmap.Goals as goal

pub returns-then-matches-clause-noted : goal.returns-then-matches-clause-noted
returns-then-matches-clause-noted g c =
    (c.in-Ok.noted.value, subst (λ (h : HeldView). IsDomainNote g.N.Naming.numbers c.in-Ok.noted.note (step.Unmap h.number) c.in-Ok.noted.value) c.held.view_is c.in-Ok.ensures)

pub returns-clause-noted : goal.returns-clause-noted
returns-clause-noted g c =
    (c.in-Ok-domain_step.noted.value, subst (λ (h : HeldView). IsDomainNote g.N.Naming.numbers c.in-Ok-domain_step.noted.note (step.Unmap h.number) c.in-Ok-domain_step.noted.value) c.held.view_is c.in-Ok-domain_step.ensures)

pub returns-clause-brings : goal.returns-clause-brings
returns-clause-brings g c = λ _.
    let same = sym (c.copy_from_slice.ensures.after ∙ c.as_slice.ensures.value) in
    let there = subst (λ (l : List ℕ). Brings (view c.args.pass.now) c.held.inside.iova l (view c.brought.new.pass)) same c.in-Ok-brought.ensures.brings in
    subst (λ (h : HeldView). Brings (view c.args.pass.now) h.iova c.copy_from_slice.new.self (view c.brought.new.pass)) c.held.view_is there

pub returns-in_default-domain_step-2-clause-goes : goal.returns-in_default-domain_step-2-clause-goes
returns-in_default-domain_step-2-clause-goes g c = goes_brings _ _ _ _ c.in-Ok-brought.ensures.brings

pub returns-clause-goes : goal.returns-clause-goes
returns-clause-goes g c = goes_brings _ _ _ _ c.in-Ok-brought.ensures.brings
