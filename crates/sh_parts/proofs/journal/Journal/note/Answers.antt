use Rattle.std.proofs.Common.{◌<◌, length, arith, sym, ap, subst}
use Rattle.sh_parts.specs.Journals.{JournalView}
use Rattle.sh_parts.specs.Steps.{Saw}
use Rattle.sh_parts.proofs.Allowed.{note_allowed}
use Rattle.sh_parts.proofs.journal.Journal.note.Goals as goal

pub split_seat-seat-requires : goal.split_seat-seat-requires
split_seat-seat-requires g c =
    let i = c.self.invariant in
    let R : JournalView → Type 0 = λ x. x.noted < length x.entries in
    let room = subst R (sym c.self.view_is) c.requires in
    let size = ap (λ (m : Saw). length m.0.journal) i.5 in
    (i.1, omega (arith, i.2), note_allowed _ c.self.inside.seat.me.0 (ap (λ (m : Saw). m.0.keeps) i.5) (omega (arith, room, size)))
