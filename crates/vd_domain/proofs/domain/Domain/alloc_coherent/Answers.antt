use Rattle.std.proofs.Common.{◌≡◌, ℕ, refl, List, ◌+◌, ◌-◌, ◌*◌, ◌/◌, ◌<◌, ◌≤◌, arith, ap, sym, subst, ◌∙◌, [], ◌∷◌, ◌++◌, Some, None, ◌||◌, length}
use Rattle.std.specs.Prelude.{is_some}
use Rattle.vd_num.specs.Number.{is_within, pages_of}
use Rattle.vd_pool.specs.Memory.{PoolMemory}
use Rattle.vd_bounce.specs.Frames.{frame_of}
use Rattle.vd_iova.specs.Space.{taken_of}
use Rattle.vd_model.specs.Setting.{Setting}
use Rattle.vd_model.specs.Acts.{Act, Coherent, Driver, Region_made}
use Rattle.vd_model.specs.Place.{place_of, taken_slots}
use Rattle.vd_domain.specs.Numbered.{Numbered}
use Rattle.vd_domain.specs.declared.streaming.Extent.{Extent}
use Rattle.vd_domain.specs.declared.pages.Pages.{Pages}
use Rattle.vd_domain.specs.Lists.{region_at, regions_of}
use Rattle.vd_domain.specs.Held.{Held, region_holds, bounce_slots}
use Rattle.vd_domain.specs.Stands.{Stands}
use Rattle.vd_domain.specs.contracts.domain.Domain.{the_view}
use Rattle.vd_domain.proofs.Entries.{mapped_more}
use Rattle.vd_domain.proofs.Holdings.{Gains}
use Rattle.vd_domain.proofs.Fits.{gained_fit}
use Rattle.vd_domain.proofs.Steps.{high_place, gained, grown_value}
use Rattle.vd_domain.proofs.Opened.{stands_inside}
use Rattle.vd_domain.proofs.Sharing.{stands_regions, fit_regions, gains_take, spared_stands}
use Rattle.vd_domain.proofs.domain.Domain.alloc_coherent.Goals as goal
use Rattle.vd_domain.proofs.domain.Domain.alloc_coherent.Goals.{In-Some, In-Ok, After-hold}

pub returns-in-Err-clause-full : goal.returns-in-Err-clause-full
returns-in-Err-clause-full c = λ x acts m s some. (
  (λ e. sym (high_place x acts _ _ (stands_inside c.self.view_is s) _ _ _ c.self.invariant (pages_of c.args.len))
      ∙ ap (λ n. place_of (taken_of c.self.inside.high) n c.self.inside.high.first c.self.inside.high.«end») (sym c.pages-n.ensures.value) ∙ sym c.in-Err.ensures.place),
  (λ none. refl),
)

-- the place that was taken is the one that the acts leave
placed : (c : In-Ok) (x : Setting) (acts : List Act) (m : PoolMemory) → Stands x acts c.args.self.now m → place_of (taken_slots acts) (pages_of c.args.len) x.bounce x.iova ≡ Some c.in-Ok.slot
placed c x acts m s =
    sym (high_place x acts _ _ (stands_inside c.self.view_is s) _ _ _ c.self.invariant (pages_of c.args.len))
    ∙ ap (λ n. place_of (taken_of c.self.inside.high) n c.self.inside.high.first c.self.inside.high.«end») (sym c.pages-n.ensures.value)
    ∙ sym c.in-Ok.ensures.place

not_placed : {k : ℕ} → Some k ≡ None → ⊥
not_placed e = cc

pub returns-in-Some-clause-full : goal.returns-in-Some-clause-full
returns-in-Some-clause-full c = λ x acts m s some.
    let at = (goal.at.returns-in-Some-clause-full c).In-Ok in
    ((λ e. absurd (let no = e in cc)), (λ none. absurd (not_placed (sym (placed at x acts m s) ∙ none))))

pub returns-in-None-clause-full : goal.returns-in-None-clause-full
returns-in-None-clause-full c = λ x acts m s some.
    let at = (goal.at.returns-in-None-clause-full c).In-Ok in
    ((λ e. absurd (let no = e in cc)), (λ none. absurd (not_placed (sym (placed at x acts m s) ∙ none))))

abbrev made_region : (c : In-Some) → Coherent
made_region c = region_at (c.in-Some.number, record { slot = c.in-Ok.slot; len = c.args.len })

gains : (c : In-Some) → Gains (region_holds (made_region c)) c.self.inside.high c.take.new.self
gains c =
    let e = c.in-Ok.ensures in
    gains_take c.self.inside.high c.take.new.self c.in-Some.number c.in-Ok.slot c.pages-n.result (pages_of c.args.len) c.pages-n.ensures.value e.place e.ok e.taken e.within e.fresh

regions_is : (c : In-Some) → regions_of c.enroll.new.values.entries ≡ regions_of c.self.inside.regions.entries ++ made_region c ∷ []
regions_is c = ap (λ (n : Numbered Extent). regions_of n.entries) c.in-Some.ensures.some.1
    ∙ mapped_more region_at c.self.inside.regions.entries (c.in-Some.number, record { slot = c.in-Ok.slot; len = c.args.len })

made_is : (c : In-Some) → c.enroll.new.values.made ≡ c.self.inside.regions.made + 1
made_is c = ap (λ (n : Numbered Extent). n.made) c.in-Some.ensures.some.1 ∙ ap (λ n. n + 1) c.in-Some.ensures.some.0

-- pages are counted from the end of bounce memory on
framed : (c : After-hold) (p : ℕ) → p < length c.self.inside.shared.frames → is_some (frame_of c.hold.new.map.frames p)
    ≡ (is_within (c.in-Ok.slot - c.self.inside.bounce.per_page * length c.self.inside.bounce.frames) (pages_of c.args.len) p || is_some (frame_of c.self.inside.shared.frames p))
framed c p below =
    c.hold.ensures.frames p below
    ∙ ap (λ (q : Pages). is_within q.first q.count p || is_some (frame_of c.self.inside.shared.frames p)) c.pages_in-pages.ensures

pub invariant_of-self-in-Some : goal.invariant_of-self-in-Some
invariant_of-self-in-Some c =
    let some = (goal.at.invariant_of-self-in-Some c).In-Some in
    let held = (goal.at.invariant_of-self-in-Some c).After-hold in
    let h : Held = the_view c.self.inside in
    fit_regions (record h { shared = c.hold.new.map; store = c.hold.new.pool }) (regions_of c.enroll.new.values.entries) (h.regions ++ made_region some ∷ []) c.enroll.new.values.made (h.made + 1) (regions_is some) (made_is some)
    (gained_fit h c.self.inside.low c.self.inside.high c.self.inside.uses c.self.invariant (made_region some) c.hold.new.map c.hold.new.pool c.take.new.self
    c.in-Some.ensures.some.0 (omega arith) c.hold.ensures.same c.hold.ensures.kept.holds (c.hold.ensures.kept.size ∙ c.in-Some.ensures.grows.size) (gains some) (framed held))

pub returns-in-Some-clause-ok : goal.returns-in-Some-clause-ok
returns-in-Some-clause-ok c = λ x acts m s.
    let some = (goal.at.returns-in-Some-clause-ok c).In-Some in
    let h : Held = the_view c.self.inside in
    let back : c.in-Ok.slot ≡ 4096 * c.in-Ok.slot / 4096 = omega arith in
    let g = gains some in
    let first : bounce_slots h ≤ c.in-Ok.slot = subst (λ k. k ≤ c.in-Ok.slot) c.self.invariant.high_first g.low in
    let new : Held = record h { shared = c.hold.new.map; store = c.hold.new.pool; regions = regions_of c.enroll.new.values.entries; made = c.enroll.new.values.made } in
    subst (λ k. Stands x (Driver (Region_made (record { number = c.in-Some.number; slot = k; len = c.args.len })) ∷ acts) new m) back
    (stands_regions (record h { shared = c.hold.new.map; store = c.hold.new.pool }) (regions_of c.enroll.new.values.entries) (h.regions ++ made_region some ∷ []) c.enroll.new.values.made (h.made + 1) (regions_is some) (made_is some)
    (gained x acts h m (stands_inside c.self.view_is s) c.self.inside.low c.self.inside.high c.self.inside.uses c.self.invariant (made_region some) c.hold.new.map c.hold.new.pool
    c.in-Some.ensures.some.0 first c.hold.ensures.same (λ p. c.hold.ensures.bytes p ∙ grown_value c.self.inside.shared c.self.inside.store c.enroll.new.pool c.in-Some.ensures.grows p) g.clear))

pub returns-in-Some-clause-place : goal.returns-in-Some-clause-place
returns-in-Some-clause-place c = λ x acts m s.
    let held = stands_inside c.self.view_is s in
    let back : c.in-Ok.slot ≡ 4096 * c.in-Ok.slot / 4096 = omega arith in (
      c.in-Some.ensures.some.0 ∙ held.made,
      ap (λ k. 4096 * k) back,
      placed (goal.at.returns-in-Some-clause-place c).In-Ok x acts m s ∙ ap (λ k. Some k) back,
    )

pub returns-in-None-clause-err : goal.returns-in-None-clause-err
returns-in-None-clause-err c = λ x acts m s.
    let h : Held = the_view c.self.inside in
    stands_regions (record h { store = c.enroll.new.pool }) (regions_of c.enroll.new.values.entries) h.regions c.enroll.new.values.made h.made
    (ap (λ (n : Numbered Extent). regions_of n.entries) c.in-None.ensures.none) (ap (λ (n : Numbered Extent). n.made) c.in-None.ensures.none)
    (spared_stands x acts h m c.enroll.new.pool c.in-None.ensures.grows (stands_inside c.self.view_is s))
