use Rattle.std.proofs.Common.{ap, sym, subst, ◌∙◌, ℕ, List, filter, ◌==◌, not}
use Rattle.vd_domain.specs.Numbered.{Numbered, IsRising}
use Rattle.vd_domain.proofs.Rising.{rising_fewer}
use Rattle.vd_domain.proofs.numbered.Numbered.remove.Goals as goal

pub invariant_of-self : goal.invariant_of-self
invariant_of-self g c =
    subst (λ (es : List (ℕ × g.row.T.Denot)). IsRising 0 c.self.inside.made es)
    (sym (c.take_out.ensures))
    (rising_fewer 0 c.self.inside.made c.args.number c.self.inside.entries c.self.invariant)

pub returns : goal.returns
returns g c =
    ap (λ (es : List (ℕ × g.row.T.Denot)). record { entries = es; made = c.self.inside.made })
    (c.take_out.ensures)
    ∙ ap (λ (n : Numbered g.row.T.Denot). record { entries = filter (λ (e : ℕ × g.row.T.Denot). not (e.0 == c.args.number)) n.entries; made = n.made }) c.self.view_is
