use Rattle.std.proofs.Common.{◌≡◌, ℕ, ◌+◌, ◌*◌, ◌/◌, ◌<◌, ◌≤◌, arith, ap, sym, subst, ◌∙◌, [], ◌∷◌, ◌++◌, Some, true}
use Rattle.vd_num.specs.Number.{is_within, pages_of}
use Rattle.vd_iova.specs.Space.{taken_of}
use Rattle.vd_model.specs.declared.memory.MapError.TheVariants.{NoSpace}
use Rattle.vd_model.specs.Acts.{Streaming, Driver, Mapped}
use Rattle.vd_bounce.specs.Frames.{Holds}
use Rattle.vd_domain.specs.Stands.{Stands}
use Rattle.vd_domain.specs.Slots.{meets_slots}
use Rattle.vd_domain.specs.Numbered.{Numbered}
use Rattle.vd_domain.specs.declared.streaming.Bounced.{Bounced}
use Rattle.vd_domain.specs.Lists.{mapping_at, mappings_of, regions_of}
use Rattle.vd_domain.specs.Held.{Held, mapping_holds, bounce_slots}
use Rattle.vd_domain.proofs.Entries.{mapped_more}
use Rattle.vd_domain.proofs.Holdings.{Gains, place_clear}
use Rattle.vd_domain.proofs.Fits.{mapped_fit}
use Rattle.vd_domain.proofs.Steps.{grown_stands, low_place, mapped}
use Rattle.vd_domain.proofs.Opened.{stands_inside, stands_with, fit_with, holds_grown}
use Rattle.vd_domain.proofs.domain.Domain.map.Goals as goal
use Rattle.vd_domain.proofs.domain.Domain.map.Goals.{After-show}

pub returns-in-Err-clause-full : goal.returns-in-Err-clause-full
returns-in-Err-clause-full c = λ x acts s e.
    let is : c.in-Err.error ≡ NoSpace = cc in
    sym (low_place x acts _ _ (stands_inside c.self.view_is s) _ _ _ c.self.invariant (pages_of c.args.want.len)) ∙ sym (c.in-Err.ensures.place is)

pub show-requires-clause-holds : goal.show-requires-clause-holds
show-requires-clause-holds c =
    holds_grown c.self.inside.bounce.frames c.args.pool.now c.book.new.pool
    (subst (λ (h : Held). Holds h.bounce.frames c.args.pool.now) (sym c.self.view_is) c.requires.holds) c.in-Ok.ensures.grows

live_is : (c : After-show) → mappings_of c.book.new.mappings.entries ≡ mappings_of c.self.inside.mappings.entries ++ mapping_at (c.in-Ok.booked.number, record { slot = c.in-Ok.booked.slot; want = c.args.want }) ∷ []
live_is c = ap (λ (n : Numbered Bounced). mappings_of n.entries) c.in-Ok.ensures.numbered.1 ∙ mapped_more mapping_at c.self.inside.mappings.entries (c.in-Ok.booked.number, record { slot = c.in-Ok.booked.slot; want = c.args.want })

made_is : (c : After-show) → c.book.new.mappings.made ≡ c.self.inside.mappings.made + 1
made_is c = ap (λ (n : Numbered Bounced). n.made) c.in-Ok.ensures.numbered.1 ∙ ap (λ n. n + 1) c.in-Ok.ensures.numbered.0

met : (c : After-show) (p : ℕ) → is_within c.in-Ok.booked.pages.first c.in-Ok.booked.pages.count p ≡ meets_slots c.self.inside.bounce.per_page p c.in-Ok.booked.slot (pages_of c.args.want.len)
met c p = c.in-Ok.ensures.pages p ∙ ap (λ g. meets_slots g p c.in-Ok.booked.slot (pages_of c.args.want.len)) c.per_page-per_page.ensures.value

pub invariant_of-self-2 : goal.invariant_of-self-2
invariant_of-self-2 c =
    let at = (goal.at.invariant_of-self-2 c).After-show in
    let h : Held = record {
      bounce = c.self.inside.bounce;
      shared = c.self.inside.shared;
      store = c.self.inside.store;
      live = mappings_of c.self.inside.mappings.entries;
      maps = c.self.inside.mappings.made;
      regions = regions_of c.self.inside.regions.entries;
      made = c.self.inside.regions.made;
      is_shown = c.self.inside.is_shown;
    } in
    let mp : Streaming = mapping_at (c.in-Ok.booked.number, record { slot = c.in-Ok.booked.slot; want = c.args.want }) in
    let e = c.in-Ok.ensures in
    let some : 0 < pages_of c.args.want.len = omega arith in
    let gains : Gains (mapping_holds mp) c.self.inside.low c.book.new.low = record {
      first = e.ends.0;
      top = e.ends.1;
      low = e.within.0;
      high = e.within.1;
      fresh = e.taken.0;
      taken = e.taken.1;
      clear = place_clear (taken_of c.self.inside.low) (pages_of c.args.want.len) c.self.inside.low.first c.self.inside.low.«end» c.in-Ok.booked.slot e.place;
    } in
    fit_with (record h { bounce = c.show.new.map; is_shown = true }) (mappings_of c.book.new.mappings.entries) (h.live ++ mp ∷ []) c.book.new.mappings.made (h.maps + 1) (live_is at) (made_is at)
    (mapped_fit h c.self.inside.low c.self.inside.high c.self.inside.uses c.self.invariant mp c.in-Ok.booked.pages.first c.in-Ok.booked.pages.count c.show.new.map c.book.new.low c.enter.new.self
    e.numbered.0 some c.show.ensures.same gains (met at) c.show.ensures.frames c.enter.ensures.counts c.enter.ensures.len)

pub returns-clause-ok : goal.returns-clause-ok
returns-clause-ok c = λ x acts s is.
    let at = (goal.at.returns-clause-ok c).After-show in
    let h : Held = record {
      bounce = c.self.inside.bounce;
      shared = c.self.inside.shared;
      store = c.self.inside.store;
      live = mappings_of c.self.inside.mappings.entries;
      maps = c.self.inside.mappings.made;
      regions = regions_of c.self.inside.regions.entries;
      made = c.self.inside.regions.made;
      is_shown = c.self.inside.is_shown;
    } in
    let mp : Streaming = mapping_at (c.in-Ok.booked.number, record { slot = c.in-Ok.booked.slot; want = c.args.want }) in
    let e = c.in-Ok.ensures in
    let held : Stands x acts h c.book.new.pool = grown_stands x acts h c.args.pool.now c.book.new.pool e.grows (stands_inside c.self.view_is s) in
    let inside : c.in-Ok.booked.slot + pages_of c.args.want.len ≤ bounce_slots h = subst (λ n. c.in-Ok.booked.slot + pages_of c.args.want.len ≤ n) c.self.invariant.low_end e.within.1 in
    let back : c.in-Ok.booked.slot ≡ 4096 * c.in-Ok.booked.slot / 4096 = omega arith in
    let new : Held = record {
      bounce = c.show.new.map;
      shared = c.self.inside.shared;
      store = c.self.inside.store;
      live = mappings_of c.book.new.mappings.entries;
      maps = c.book.new.mappings.made;
      regions = regions_of c.self.inside.regions.entries;
      made = c.self.inside.regions.made;
      is_shown = true;
    } in
    subst (λ k. Stands x (Driver (Mapped (record { number = c.in-Ok.booked.number; slot = k; want = c.args.want })) ∷ acts) new c.show.new.pool) back
    (stands_with (record h { bounce = c.show.new.map; is_shown = true }) (mappings_of c.book.new.mappings.entries) (h.live ++ mp ∷ []) c.book.new.mappings.made (h.maps + 1) (live_is at) (made_is at)
    (mapped x acts h c.book.new.pool held c.self.inside.low c.self.inside.high c.self.inside.uses c.self.invariant mp c.args.bytes.now is c.requires.text inside
    c.show.new.map c.show.new.pool c.in-Ok.booked.pages.first c.in-Ok.booked.pages.count e.numbered.0 c.show.ensures.same (met at) c.show.ensures.frames c.show.ensures.bytes))

pub returns-clause-place : goal.returns-clause-place
returns-clause-place c = λ x acts s.
    let held = stands_inside c.self.view_is s in
    let e = c.in-Ok.ensures in
    let back : c.in-Ok.booked.slot ≡ 4096 * c.in-Ok.booked.slot / 4096 = omega arith in (
      e.numbered.0 ∙ held.maps,
      ap (λ k. 4096 * k) back,
      sym (low_place x acts _ _ held _ _ _ c.self.invariant (pages_of c.args.want.len)) ∙ sym e.place ∙ ap (λ k. Some k) back,
    )
