use Rattle.std.proofs.Common.{◌≡◌, List, [], ◌∷◌, ◌++◌, length, reverse, length-append, arith, sym, ap, ◌∙◌, subst}
use Rattle.sh_parts.specs.declared.entry.Entry.{Entry}
use Rattle.sh_parts.specs.declared.entry.Entry.TheVariants as entry
use Rattle.sh_parts.specs.Legal.{domain_acts}
use Rattle.sh_parts.specs.Memory.{Stands}
use Rattle.sh_parts.specs.Journals.{JournalView}
use Rattle.sh_parts.proofs.Moments.{newest}
use Rattle.sh_parts.proofs.domain.DomainState.apply.Goals as goal

pub invariant_of-self-in_err-answer : goal.invariant_of-self-in_err-answer
invariant_of-self-in_err-answer g c =
    let i = c.self.invariant in
    let x = g.N.Naming.numbers in
    let same : c.reserve.new.self.entries ≡ c.self.inside.journal.entries = ap (λ (j : JournalView). j.entries) c.reserve.ensures.same in
    let stands = c.in_err-answer.ensures.err x _ i.2 in
    let next : c.answer_to.new.self.next ≡ c.self.inside.memory.next = stands.next ∙ sym i.2.next in
    let few = i.3 in
    let size = ap (λ (l : List Entry). length l) same in (
      ap (λ (j : JournalView). j.kind) c.reserve.ensures.same ∙ i.0,
      c.answer_to.ensures.sound,
      subst (λ (l : List Entry). Stands x (domain_acts x (reverse l)) c.answer_to.new.self) (sym same) stands,
      omega (arith, next, few, size),
    )

pub invariant_of-self-2 : goal.invariant_of-self-2
invariant_of-self-2 g c =
    let i = c.self.invariant in
    let x = g.N.Naming.numbers in
    let e : Entry = entry.Domain c.args.step c.in_ok-answer.answer in
    let old : List Entry = c.self.inside.journal.entries in
    let more : c.append.new.self.entries ≡ old ++ e ∷ [] =
    ap (λ (j : JournalView). j.entries) c.append.ensures.entry ∙ ap (λ (j : JournalView). j.entries ++ e ∷ []) c.reserve.ensures.same in
    let stands = (c.in_ok-answer.ensures.makes x _ i.2).1 in
    let next = c.answer_to.ensures.next in
    let few = i.3 in
    let size = ap (λ (l : List Entry). length l) more in
    let long = length-append old (e ∷ []) in (
      ap (λ (j : JournalView). j.kind) c.append.ensures.entry ∙ ap (λ (j : JournalView). j.kind) c.reserve.ensures.same ∙ i.0,
      c.answer_to.ensures.sound,
      subst (λ (l : List Entry). Stands x (domain_acts x l) c.answer_to.new.self) (sym (ap (λ (l : List Entry). reverse l) more ∙ newest old e)) stands,
      omega (arith, next, few, size, long),
    )
