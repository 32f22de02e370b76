use Rattle.std.proofs.Common.{◌≡◌, ◌+◌, ◌<◌, ◌≤◌, ap, sym, ◌∙◌, refl, Option, Some, None}
use Rattle.std.specs.Option.{option_map, IfSome}
use Rattle.vd_num.specs.Number.{pages_of}
use Rattle.vd_model.specs.Acts.{Coherent}
use Rattle.vd_domain.specs.declared.streaming.Extent.{Extent}
use Rattle.vd_domain.specs.Held.{Held, coherent_of}
use Rattle.vd_domain.specs.Lists.{region_at}
use Rattle.vd_domain.specs.contracts.domain.Domain.{the_view}
use Rattle.vd_domain.proofs.Entries.{kept_option}
use Rattle.vd_domain.proofs.Fits.{region_inside}
use Rattle.vd_domain.proofs.domain.Domain.region.Goals as goal

pub returns-clause-live : goal.returns-clause-live
returns-clause-live c =
    ap (λ (h : Held). coherent_of h c.args.number) (sym c.self.view_is)
    ∙ kept_option region_at (λ (r : Coherent). r.number) (λ e. refl) c.args.number c.self.inside.regions.entries c.get.result c.get.ensures

pub returns-clause-inside : goal.returns-clause-inside
returns-clause-inside c =
    by c.get.result (kept_option region_at (λ (r : Coherent). r.number) (λ e. refl) c.args.number c.self.inside.regions.entries c.get.result c.get.ensures) where
      by : (o : Option Extent) → coherent_of (the_view c.self.inside) c.args.number ≡ option_map (λ r. region_at (c.args.number, r)) o
          → IfSome o (λ r. (0 < pages_of r.len) × (r.slot + pages_of r.len ≤ 65536))
      by None e = tt
      by (Some r) e = let i = region_inside _ _ _ _ c.self.invariant c.args.number (region_at (c.args.number, r)) e in (i.0, i.1)
