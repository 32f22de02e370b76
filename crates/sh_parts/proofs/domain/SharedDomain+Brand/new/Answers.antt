use Rattle.std.proofs.Common.{ℕ, [], sym, subst}
use Rattle.sh_parts.specs.Memory.{Stands}
use Rattle.sh_parts.proofs.domain.SharedDomain+Brand.new.Goals as goal

pub invariant_of-result : goal.invariant_of-result
invariant_of-result c =
    let s = c.in_ok-new-2.ensures.stands in (
      c.in_ok-new.ensures,
      c.in_ok-new-2.ensures.sound,
      (λ t. subst (λ (y : ℕ × ℕ). Stands (record { bounce = y.0; pages = y.1; timeout = t }) [] c.in_ok-new-2.field-0) (λ i. (sym (s t).bounce i, sym (s t).pages i)) (s t)),
      c.in_ok-new-2.ensures.next,
    )

pub returns-clause-numbers : goal.returns-clause-numbers
returns-clause-numbers c = let s = c.in_ok-new-2.ensures.stands 0 in (s.bounce, s.pages)
