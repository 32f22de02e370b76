use Rattle.std.proofs.Common.{◌≡◌, ℕ, ◌==◌, not, filter, List, ap, sym, subst, ◌∙◌}
use Rattle.std.specs.Prelude.{is_some}
use Rattle.std.specs.List.{list_any}
use Rattle.std.specs.Map.{values_of}
use Rattle.vd_model.specs.declared.memory.Region.{Region}
use Rattle.vd_regions.specs.Ordered.{IsFrom}
use Rattle.vd_regions.proofs.Lists.{drops}
use Rattle.vd_regions.proofs.regions.Regions.remove.Goals as goal

pub invariant_of-self : goal.invariant_of-self
invariant_of-self c =
    subst (λ (es : List (ℕ × Region)). IsFrom 0 es) (sym c.remove.ensures.entries) (drops 0 c.args.start c.self.inside.map.entries c.self.invariant).from

pub returns-clause-was : goal.returns-clause-was
returns-clause-was c =
    let e : c.is_some.result ≡ list_any (λ (r : Region). r.start == c.args.start) c.args.self.now =
    c.is_some.ensures ∙ ap is_some c.remove.ensures.value ∙ (drops 0 c.args.start c.self.inside.map.entries c.self.invariant).was
    ∙ ap (λ rs. list_any (λ (r : Region). r.start == c.args.start) rs) c.self.view_is in
    ((λ t. sym e ∙ t), (λ t. e ∙ t))

pub returns-clause-new : goal.returns-clause-new
returns-clause-new c =
    ap (λ (es : List (ℕ × Region)). values_of es) c.remove.ensures.entries
    ∙ (drops 0 c.args.start c.self.inside.map.entries c.self.invariant).list
    ∙ ap (λ rs. filter (λ (r : Region). not (r.start == c.args.start)) rs) c.self.view_is
