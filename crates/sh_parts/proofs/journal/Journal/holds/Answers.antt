use Rattle.std.proofs.Common.{arith, sym, ap, ◌∙◌}
use Rattle.sh_parts.specs.Steps.{Saw}
use Rattle.sh_parts.specs.Journals.{JournalView, NoteView, table_of}
use Rattle.sh_parts.proofs.Allowed.{meet_allowed, look_allowed}
use Rattle.sh_parts.proofs.journal.Journal.holds.Goals as goal

pub join_seat-requires : goal.join_seat-requires
join_seat-requires g c =
    let i = c.self.invariant in
    let s = c.note.invariant in
    let same = ap (table_of g.N.Naming.domain g.N.Naming.messages) (ap (λ (x : NoteView). x.kind) c.note.view_is ∙ c.requires ∙ sym (ap (λ (x : JournalView). x.kind) c.self.view_is)) in
    (i.1, s.0 ∙ same ∙ sym i.0, ap (λ (m : Saw). m.1) s.3, omega (arith, i.2), meet_allowed _ _ _ c.note.inside.seat.me.0 (ap (λ (m : Saw). m.0.claims) s.3))

pub load-requires : goal.load-requires
load-requires g c =
    let i = c.self.invariant in
    (c.join_seat.ensures.0 ∙ i.1, omega (arith, i.2), look_allowed _ _ c.join_seat.new.seat.me)
