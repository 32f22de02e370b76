use Rattle.std.proofs.Common.{◌≡◌, ◌+◌, ◌≤◌, ap, sym, ◌∙◌, refl, arith, Option, Some, None}
use Rattle.std.specs.Option.{option_map, IfSome}
use Rattle.vd_num.specs.Number.{pages_of}
use Rattle.vd_model.specs.Acts.{Streaming}
use Rattle.vd_domain.specs.declared.streaming.Bounced.{Bounced}
use Rattle.vd_domain.specs.Held.{Held, mapping_of}
use Rattle.vd_domain.specs.Lists.{mapping_at}
use Rattle.vd_domain.specs.contracts.domain.Domain.{the_view}
use Rattle.vd_domain.proofs.Entries.{kept_option}
use Rattle.vd_domain.proofs.Fits.{live_inside}
use Rattle.vd_domain.proofs.domain.Domain.mapping.Goals as goal

pub returns-clause-live : goal.returns-clause-live
returns-clause-live c =
    ap (λ (h : Held). mapping_of h c.args.number) (sym c.self.view_is)
    ∙ kept_option mapping_at (λ (m : Streaming). m.number) (λ e. refl) c.args.number c.self.inside.mappings.entries c.get.result c.get.ensures

pub returns-clause-inside : goal.returns-clause-inside
returns-clause-inside c =
    by c.get.result (kept_option mapping_at (λ (m : Streaming). m.number) (λ e. refl) c.args.number c.self.inside.mappings.entries c.get.result c.get.ensures) where
      by : (o : Option Bounced) → mapping_of (the_view c.self.inside) c.args.number ≡ option_map (λ m. mapping_at (c.args.number, m)) o → IfSome o (λ m. m.slot + pages_of m.want.len ≤ 65536)
      by None e = tt
      by (Some m) e =
          let inside = live_inside _ _ _ _ c.self.invariant c.args.number (mapping_at (c.args.number, m)) e in
          let top = inside.1 in
          let small = c.self.invariant.small in
          omega arith
