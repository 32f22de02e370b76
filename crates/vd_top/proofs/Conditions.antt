-- The sizes that words give are those of a run's devices, and meet the conditions of the laws.
use Rattle.std.proofs.Common.{◌≡◌, ◌≤◌, ◌*◌, ◌/◌, ◌∙◌, ap, sym, subst, arith, Some}
use Rattle.std.proofs.Math.Nat.{mul_comm}
use Rattle.vd_model.specs.Setting.{Setting}
use Rattle.vd_laws.specs.Runs.{IsAddressed, IsWhole}
use Rattle.vd_options.specs.declared.options.Options.{Options}
use Rattle.vd_options.specs.Words.{Sizes, AreFit, sizes_in}
use Rattle.vd_device.specs.declared.sizes.Sizes.{Sizes as OfDevices}
use Rattle.vd_device.specs.Sizes.{AreFit as FitDevices, IsSized}
use Rattle.vd_top.specs.Asked.{HasSizes}

pub addressed : (x : Setting) → x.iova ≤ 65536 → IsAddressed x
addressed x small = omega arith

pub whole : (x : Setting) → x.bounce ≡ x.per_page * (x.bounce / x.per_page) → IsWhole x
whole x is = (x.bounce / x.per_page, is ∙ mul_comm x.per_page (x.bounce / x.per_page))

module _ (o : Options) (s : OfDevices) (bounce : s.bounce ≡ o.bounce_pages) (iova : s.iova ≡ o.iova_pages) (page : s.per_page ≡ o.page / 4096) where
  pub fit_devices : AreFit (sizes_in o) → FitDevices s
  fit_devices fit =
      let whole = fit.whole in let low = fit.low in let order = fit.order in let small = fit.small in let some = fit.some in let few = fit.few in
      record {
        some = omega (arith, some, page);
        few = omega (arith, few, page);
        whole = bounce ∙ whole ∙ sym (ap (λ n. n * (s.bounce / n)) page ∙ ap (λ b. o.page / 4096 * (b / (o.page / 4096))) bounce);
        low = omega (arith, low, page, bounce);
        order = omega (arith, order, bounce, iova);
        small = omega (arith, small, iova);
      }

  -- a setting that has the sizes that the words ask for has those of the devices
  module _ (x : Setting) (asked : Sizes) (same : Some asked ≡ Some (sizes_in o)) (has : HasSizes x asked) where
    asked_is : asked ≡ sizes_in o
    asked_is = cc

    pub has_bounce : x.bounce ≡ o.bounce_pages
    has_bounce = has.bounce ∙ ap (λ (z : Sizes). z.bounce) asked_is

    pub has_iova : x.iova ≡ o.iova_pages
    has_iova = has.iova ∙ ap (λ (z : Sizes). z.iova) asked_is

    pub has_page : x.per_page ≡ o.page / 4096
    has_page = has.per_page ∙ ap (λ (z : Sizes). z.per_page) asked_is

    pub sized : IsSized x s
    sized = record { bounce = has_bounce ∙ sym bounce; iova = has_iova ∙ sym iova; per_page = has_page ∙ sym page }

    module _ (fit : AreFit (sizes_in o)) where
      pub is_addressed : IsAddressed x
      is_addressed = addressed x (subst (λ k. k ≤ 65536) (sym has_iova) fit.small)

      pub is_whole : IsWhole x
      is_whole = whole x (has_bounce ∙ fit.whole ∙ sym (ap (λ n. n * (x.bounce / n)) has_page ∙ ap (λ b. o.page / 4096 * (b / (o.page / 4096))) has_bounce))
