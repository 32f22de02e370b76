use Rattle.std.proofs.Common.{ap, sym, subst, ◌∙◌, ℕ, List, ◌+◌, ◌++◌, ◌∷◌, []}
use Rattle.vd_domain.specs.Numbered.{Numbered, IsRising}
use Rattle.vd_domain.proofs.Rising.{rising_last}
use Rattle.vd_domain.proofs.numbered.Numbered.push.Goals as goal

pub invariant_of-self : goal.invariant_of-self
invariant_of-self g c =
    subst (λ (es : List (ℕ × g.row.T.Denot)). IsRising 0 (c.self.inside.made + 1) es)
    (sym (c.in-Ok.ensures.ok))
    (rising_last 0 c.self.inside.made c.self.inside.entries c.args.value c.self.invariant)

pub returns-in-Ok-clause-ok : goal.returns-in-Ok-clause-ok
returns-in-Ok-clause-ok g c = (
  ap (λ (n : Numbered g.row.T.Denot). n.made) c.self.view_is,
  ap (λ (es : List (ℕ × g.row.T.Denot)). record { entries = es; made = c.self.inside.made + 1 })
      (c.in-Ok.ensures.ok
      ∙ ap (λ (n : Numbered g.row.T.Denot). n.entries ++ (c.self.inside.made, c.args.value) ∷ []) c.self.view_is),
)
