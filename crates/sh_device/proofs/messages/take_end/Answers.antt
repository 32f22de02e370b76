use Rattle.std.proofs.Common.{◌∙◌, List, ap, sym, subst}
use mathlib.Core.List.{IsPrefix}
use Rattle.sh_parts.specs.declared.entry.Entry.{Entry}
use Rattle.sh_parts.specs.Journals.{NoteView, StateView}
use Rattle.sh_device.proofs.messages.take_end.Goals as goal

pub holds-requires : goal.holds-requires
holds-requires g c = ap (λ (n : NoteView). n.kind) c.loop.invariant ∙ c.requires

pub returns-then-ne-clause-sent : goal.returns-then-ne-clause-sent
returns-then-ne-clause-sent g c =
    let after = ap (λ (n : NoteView). n.entries) c.note-note.ensures.note ∙ ap (λ (s : StateView). s.entries) c.holds.ensures.same in
    subst (λ (n : NoteView). IsPrefix n.entries c.note-note.result.entries) c.loop.invariant (subst (λ (l : List Entry). IsPrefix c.loop.sent.entries l) (sym after) c.holds.ensures.front)
