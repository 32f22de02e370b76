use Rattle.std.proofs.Common.{ℕ, List, arith, ap, sym, subst, ◌∙◌}
use Rattle.std.specs.Map.{values_of}
use Rattle.vd_model.specs.declared.memory.Region.{Region}
use Rattle.vd_regions.specs.Ordered.{with_region, IsFrom}
use Rattle.vd_regions.proofs.Lists.{places}
use Rattle.vd_regions.proofs.regions.Regions.add.Goals as goal
use Rattle.vd_regions.proofs.regions.Regions.add.Goals.{in-Ok, in-Err}

pub invariant_of-self : goal.invariant_of-self
invariant_of-self c =
    let at = places 0 c.args.region c.self.inside.map.entries c.requires (omega arith) c.self.invariant (sym c.meets.ensures ∙ c.if-meets.false) in
    elim c.match-insert.branch [
      | in-Ok w ↦ subst (λ (es : List (ℕ × Region)). IsFrom 0 es) (sym w.in-Ok.ensures.entries) at.from
      | in-Err w ↦ subst (λ (es : List (ℕ × Region)). IsFrom 0 es) (sym w.in-Err.ensures.err) c.self.invariant
    ]

pub returns-clause-ok : goal.returns-clause-ok
returns-clause-ok c =
    let at = places 0 c.args.region c.self.inside.map.entries c.requires (omega arith) c.self.invariant (sym c.meets.ensures ∙ c.if-meets.false) in
    elim c.match-insert.branch [
      | in-Ok w ↦ rw w.result-is (ap (λ (es : List (ℕ × Region)). values_of es) w.in-Ok.ensures.entries ∙ at.list ∙ ap (λ rs. with_region c.args.region rs) c.self.view_is)
      | in-Err w ↦ rw w.result-is tt
    ]
