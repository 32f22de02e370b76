use Rattle.std.proofs.Common.{◌≡◌, ℕ, Bool, false, Option, ◌≤◌, ◌⊎◌, inl, inr, ◌*◌, nat_lt, if◌then◌else◌, arith, sym, ap, ◌∙◌}
use Rattle.std.proofs.lemmas.Bool.Decides.{nat_tests}
use Rattle.std.specs.Option.{option_map_or}
use Rattle.vd_num.specs.declared.errno.Errno.TheVariants.{Inval}
use Rattle.vd_model.specs.declared.memory.Region.{Region}
use Rattle.sh_parts.specs.declared.entry.DomainAnswer.{DomainAnswer}
use Rattle.sh_parts.specs.Legal.{domain_refusal, domain_found}
use Rattle.sh_parts.proofs.Turns.{lookup_first}
use Rattle.sh_parts.proofs.memory.Memory.lookup.Goals.{else-self-via-then-self+else-range-self, else-self-via-else-self}
use Rattle.sh_parts.proofs.memory.Memory.lookup.Goals as goal

-- the answer, by whether the range is empty and by what is found
abbrev answer : Bool × Option Region → DomainAnswer
answer y = (if y.0 then domain_refusal Inval else option_map_or domain_found y.1 (domain_refusal Inval)).answer

in_order : (start last : ℕ) → start ≤ last → nat_lt last start ≡ false
in_order start last le = grind (arith, nat_tests)

pub returns-in-Some : goal.returns-in-Some
returns-in-Some c = λ x done s.
    let other : (c.args.self.now.mapped ≡ false) ⊎ (4096 * c.args.self.now.bounce_pages ≤ c.args.range.start) =
    elim c.else-self.branch [ else-self-via-then-self+else-range-self w ↦ inr w.if-range-self.false | else-self-via-else-self w ↦ inl w.if-self.false ] in
    let first = lookup_first x done c.args.self.now c.requires.sound s c.args.range.start c.args.range.last other in
    ap answer (λ i. (sym (in_order c.args.range.start c.args.range.last c.if-range.false) i, (sym c.in-Some.is ∙ c.first.ensures ∙ first) i))

pub returns-in-None : goal.returns-in-None
returns-in-None c = λ x done s.
    let other : (c.args.self.now.mapped ≡ false) ⊎ (4096 * c.args.self.now.bounce_pages ≤ c.args.range.start) =
    elim c.else-self.branch [ else-self-via-then-self+else-range-self w ↦ inr w.if-range-self.false | else-self-via-else-self w ↦ inl w.if-self.false ] in
    let first = lookup_first x done c.args.self.now c.requires.sound s c.args.range.start c.args.range.last other in
    ap answer (λ i. (sym (in_order c.args.range.start c.args.range.last c.if-range.false) i, (sym c.in-None.is ∙ c.first.ensures ∙ first) i))
