use Rattle.std.proofs.Common.{sym, subst, reverse}
use Rattle.sh_parts.specs.declared.entry.JournalKind.{JournalKind}
use Rattle.sh_parts.specs.Legal.{AreRight, NoneLater}
use Rattle.sh_parts.specs.Journals.{StateView}
use Rattle.sh_parts.proofs.Moments.{none_later}
use Rattle.sh_parts.proofs.messages.MessageState.now.Goals as goal

pub returns-clause-greatest : goal.returns-clause-greatest
returns-clause-greatest g c =
    let i = c.self.invariant in
    let x = g.N.Naming.numbers in
    let before = reverse c.self.inside.journal.entries in
    let right = subst (λ (k : JournalKind). AreRight x k before) i.0 c.legal.ensures in
    let last = none_later x before right in
    subst (λ (v : StateView). NoneLater c.self.inside.time (reverse v.entries)) c.self.view_is (subst (λ n. NoneLater n before) (sym i.2) last)
