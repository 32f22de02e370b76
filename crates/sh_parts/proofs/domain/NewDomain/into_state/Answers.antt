use Rattle.std.proofs.Common.{List, reverse, arith, sym, ap, ◌∙◌, subst}
use Rattle.sh_parts.specs.declared.entry.Entry.{Entry}
use Rattle.sh_parts.specs.Legal.{domain_acts}
use Rattle.sh_parts.specs.Memory.{Stands}
use Rattle.sh_parts.specs.Journals.{NewDomainView}
use Rattle.sh_parts.proofs.domain.NewDomain.into_state.Goals as goal

pub invariant_of-result : goal.invariant_of-result
invariant_of-result g c =
    let i = c.self.invariant in
    let x = g.N.Naming.numbers in
    let s = i.2 0 in
    let zero = i.3 in
    let none = c.named.ensures.empty.0 in (
      c.named.ensures.kind ∙ i.0,
      i.1,
      subst (λ (l : List Entry). Stands x (domain_acts x (reverse l)) c.self.inside.memory) (sym none) (record {
        bounce = ap (λ (v : NewDomainView). v.bounce) c.self.view_is ∙ c.requires.numbers.0;
        pages = ap (λ (v : NewDomainView). v.pages) c.self.view_is ∙ c.requires.numbers.1;
        next = s.next;
        mapped = s.mapped;
        registered = s.registered;
        mappings = s.mappings;
        areas = s.areas;
      }),
      omega (arith, zero),
    )
