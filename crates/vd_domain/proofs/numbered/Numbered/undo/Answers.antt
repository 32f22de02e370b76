use Rattle.std.proofs.Common.{◌≡◌, ◌<◌, ◌+◌, ◌-◌, ◌++◌, ◌∷◌, ap, sym, subst, ◌∙◌, ℕ, List, [], arith, filter, ◌==◌, not}
use Rattle.vd_domain.specs.Numbered.{Numbered, IsRising}
use Rattle.vd_domain.proofs.Undoing.{rising_cut, without_last}
use Rattle.vd_domain.proofs.numbered.Numbered.undo.Goals as goal

pub invariant_of-self : goal.invariant_of-self
invariant_of-self g c =
    let made : ℕ = c.self.inside.made in
    let same : made ≡ c.args.self.now.made = ap (λ (n : Numbered g.row.T.Denot). n.made) c.self.view_is in
    let some : 0 < c.args.self.now.made = c.requires in
    let back : made ≡ made - 1 + 1 = omega (arith, same, some) in
    subst (λ (es : List (ℕ × g.row.T.Denot)). IsRising 0 (made - 1) es)
    (sym (c.take_out.ensures))
    (rising_cut 0 (made - 1) c.self.inside.entries (omega arith) (subst (λ (n : ℕ). IsRising 0 n c.self.inside.entries) back c.self.invariant))

pub returns-clause-rest : goal.returns-clause-rest
returns-clause-rest g c =
    let made : ℕ = c.self.inside.made in
    ap (λ (es : List (ℕ × g.row.T.Denot)). record { entries = es; made = made - 1 })
    (c.take_out.ensures)
    ∙ ap (λ (n : Numbered g.row.T.Denot). record { entries = filter (λ (e : ℕ × g.row.T.Denot). not (e.0 == n.made - 1)) n.entries; made = n.made - 1 }) c.self.view_is

pub returns-clause-last : goal.returns-clause-last
returns-clause-last g c = λ es value is.
    let made : ℕ = c.self.inside.made in
    let same : made ≡ c.args.self.now.made = ap (λ (n : Numbered g.row.T.Denot). n.made) c.self.view_is in
    let all : c.self.inside.entries ≡ es ++ (made - 1, value) ∷ [] =
    (ap (λ (n : Numbered g.row.T.Denot). n.entries) c.self.view_is ∙ is ∙ ap (λ (n : ℕ). es ++ (n - 1, value) ∷ []) (sym same)) in
    ap (λ (xs : List (ℕ × g.row.T.Denot)). record { entries = xs; made = made - 1 })
    (c.take_out.ensures
    ∙ ap (λ (xs : List (ℕ × g.row.T.Denot)). filter (λ (e : ℕ × g.row.T.Denot). not (e.0 == made - 1)) xs) all
    ∙ without_last 0 made (made - 1) es value (subst (λ (xs : List (ℕ × g.row.T.Denot)). IsRising 0 made xs) all c.self.invariant))
    ∙ ap (λ (n : ℕ). record { entries = es; made = n - 1 }) same
