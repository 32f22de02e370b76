use Rattle.std.proofs.Common.{◌≡◌, subst, ◌∙◌, List}
use Rattle.vd_model.specs.declared.memory.Region.{Region}
use Rattle.vd_model.specs.AreaTurns.{overlaps, first_region}
use Rattle.vd_regions.proofs.Lists.{lowest_first}
use Rattle.vd_regions.proofs.regions.Regions.first.Goals as goal

pub returns : goal.returns
returns c = subst (λ (rs : List Region). c.first_in.result ≡ first_region rs c.args.range.start c.args.range.last) c.self.view_is
    (c.first_in.ensures ∙ lowest_first 0 (overlaps c.args.range.start c.args.range.last) c.self.inside.map.entries c.self.invariant)
