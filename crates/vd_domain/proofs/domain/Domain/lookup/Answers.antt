use Rattle.std.proofs.Common.{ℕ, List, subst, sym, arith}
use Rattle.std.specs.List.{All}
use Rattle.vd_domain.specs.declared.streaming.Extent.{Extent}
use Rattle.vd_domain.specs.Lookup.{Lies}
use Rattle.vd_domain.proofs.LookedUp.{all_lie}
use Rattle.vd_domain.proofs.domain.Domain.lookup.Goals as goal

pub first_in-requires : goal.first_in-requires
first_in-requires c =
    let small = c.self.invariant.small in
    let top = c.self.invariant.high_end in
    subst (λ (es : List (ℕ × Extent)). All (λ (e : ℕ × Extent). Lies e.1) es) (sym c.by_number.ensures)
    (all_lie c.self.inside.high c.self.inside.regions.made c.self.inside.regions.entries (omega arith) c.self.invariant.regions.each)
