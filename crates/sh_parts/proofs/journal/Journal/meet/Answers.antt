use Rattle.std.proofs.Common.{arith, sym, ap, ◌∙◌}
use Rattle.atomic_table.specs.Seated.{TableId}
use Rattle.sh_parts.specs.declared.entry.JournalKind.{JournalKind}
use Rattle.sh_parts.specs.Steps.{Saw}
use Rattle.sh_parts.specs.Journals.{JournalView, NoteView, table_of}
use Rattle.sh_parts.proofs.Allowed.{meet_allowed, look_allowed}
use Rattle.sh_parts.proofs.journal.Journal.meet.Goals as goal

pub join_seat-requires : goal.join_seat-requires
join_seat-requires g c =
    let i = c.self.invariant in
    let f = c.first.invariant in
    let s = c.second.invariant in
    let table : JournalKind → TableId = table_of g.N.Naming.domain g.N.Naming.messages in
    let mine = ap (λ (x : JournalView). x.kind) c.self.view_is in
    let same_f = ap table (ap (λ (x : NoteView). x.kind) c.first.view_is ∙ c.requires.0 ∙ sym mine) in
    let same_s = ap table (ap (λ (x : NoteView). x.kind) c.second.view_is ∙ c.requires.1 ∙ sym mine) in
    (f.0 ∙ same_f ∙ sym i.0, s.0 ∙ same_s ∙ sym i.0, ap (λ (m : Saw). m.1) s.3, omega (arith, i.2), meet_allowed _ _ _ c.second.inside.seat.me.0 (ap (λ (m : Saw). m.0.claims) s.3))

pub load-requires : goal.load-requires
load-requires g c =
    let table : JournalKind → TableId = table_of g.N.Naming.domain g.N.Naming.messages in
    let mine = ap (λ (x : JournalView). x.kind) c.self.view_is in
    let same_f = ap table (ap (λ (x : NoteView). x.kind) c.first.view_is ∙ c.requires.0 ∙ sym mine) in
    let i = c.self.invariant in
    (c.join_seat.ensures.0 ∙ c.first.invariant.0 ∙ same_f ∙ sym i.0, omega (arith, i.2), look_allowed _ _ c.join_seat.new.seat.me)
