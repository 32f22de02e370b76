use Rattle.std.proofs.Common.{◌≡◌, ◌++◌, ◌∷◌, ◌-◌, [], List, length, length-append, reverse, arith, ap, ◌∙◌}
use Rattle.sh_parts.specs.declared.entry.Entry.{Entry}
use Rattle.sh_parts.specs.declared.entry.Entry.TheVariants as entry
use Rattle.sh_parts.specs.declared.entry.DomainStep.TheVariants as step
use Rattle.sh_parts.specs.declared.entry.DomainAnswer.{DomainAnswer}
use Rattle.sh_parts.specs.Legal.{domain_turn, domain_acts}
use Rattle.sh_parts.specs.Journals.{NoteView, StateView}
use Rattle.sh_device.specs.Calls.{HeldView}
use Rattle.sh_device.proofs.device.Device.free.Goals as goal

pub returns-clause-noted : goal.returns-clause-noted
returns-clause-noted g c =
    let x = g.N.Naming.numbers in
    let before : List Entry = c.deref_mut-state.result.now.entries in
    let a : DomainAnswer = c.in-Ok.field-0 in
    let all : c.apply.new.self.entries ≡ before ++ entry.Domain (step.FreeCoherent c.args.held.number) a ∷ [] =
    ap (λ (s : StateView). s.entries) c.in-Ok.ensures.entry ∙ ap (λ (h : HeldView). before ++ entry.Domain (step.FreeCoherent h.number) a ∷ []) c.held.view_is in
    let place : length c.apply.new.self.entries - 1 ≡ length before = ap (λ (l : List Entry). length l - 1) all ∙ omega (arith, length-append before (entry.Domain (step.FreeCoherent c.args.held.number) a ∷ [])) in (
      a,
      record {
        before = before;
        entries = ap (λ (n : NoteView). n.entries) c.note.ensures.note ∙ all;
        place = ap (λ (n : NoteView). n.place) c.note.ensures.note ∙ place;
        kind = ap (λ (n : NoteView). n.kind) c.note.ensures.note;
        right = c.in-Ok.ensures.answer ∙ ap (λ (h : HeldView). (domain_turn x (domain_acts x (reverse before)) (step.FreeCoherent h.number)).answer) c.held.view_is;
      },
    )
