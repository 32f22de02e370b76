use Rattle.std.proofs.Common.{◌≡◌, ℕ, ◌+◌, ◌<◌, List, ◌++◌, Some, Err, true, refl, ap, sym, subst, ◌∙◌, arith, length, map}
use Rattle.std.specs.Prelude.{is_some}
use Rattle.std.proofs.lemmas.Grind.{common_steps}
use Rattle.vd_model.specs.Acts.{Streaming}
use Rattle.vd_model.specs.Live.{maps}
use Rattle.vd_model.specs.Place.{taken_slots}
use Rattle.vd_model.specs.RingTurns.{placed_mappings, map_acts}
use Rattle.vd_domain.specs.declared.booking.Booked.{Booked}
use Rattle.vd_domain.specs.Numbered.{Numbered}
use Rattle.vd_domain.specs.declared.streaming.Bounced.{Bounced}
use Rattle.vd_domain.specs.Lists.{mappings_of}
use Rattle.vd_domain.specs.Held.{Held, IsFit, mapping_holds}
use Rattle.vd_domain.specs.Stands.{Stands}
use Rattle.vd_domain.specs.Placing.{AreGiven, streamings}
use Rattle.vd_domain.specs.contracts.domain.Domain.{the_view}
use Rattle.vd_domain.proofs.Batches.{err_same, some_same, all_placed, given_long, all_mapped}
use Rattle.vd_domain.proofs.Shows.{with_mappings_is, seen_of}
use Rattle.vd_domain.proofs.Steps.{grown_stands}
use Rattle.vd_domain.proofs.Opened.{stands_inside, stands_with, fit_with}
use Rattle.vd_domain.proofs.domain.Domain.map_all.Goals as goal
use Rattle.vd_domain.proofs.domain.Domain.map_all.Goals.{After-show_all}

pub returns-in-Err-book_all-clause-full : goal.returns-in-Err-book_all-clause-full
returns-in-Err-book_all-clause-full c = λ x acts s e.
    let h : Held = the_view c.self.inside in
    let t : Stands x acts h c.args.pool.now = stands_inside c.self.view_is s in
    ap (λ (k : ℕ). placed_mappings x (taken_slots acts) k c.args.wants.now) (sym t.maps)
    ∙ c.in-Err-book_all.ensures.full (ap (λ k. Err k) (err_same e)) x (map mapping_holds h.live) (taken_slots acts) (t.per_page ∙ sym c.self.invariant.low_first) (t.bounce ∙ sym c.self.invariant.low_end)
    c.self.invariant.maps (seen_of x acts h c.args.pool.now c.self.inside.low c.self.inside.high c.self.inside.uses t c.self.invariant)

all_given : (c : After-show_all) → AreGiven c.self.inside.bounce.per_page c.self.inside.low c.self.inside.mappings.made c.args.wants.now c.deref.result.now c.book_all.new.low
all_given c =
    let same : c.book_all.new.booked ≡ c.deref.result.now = grind (arith, common_steps) in
    subst (λ (bs : List Booked). AreGiven c.self.inside.bounce.per_page c.self.inside.low c.self.inside.mappings.made c.args.wants.now bs c.book_all.new.low) same
    (subst (λ (g : ℕ). AreGiven g c.self.inside.low c.self.inside.mappings.made c.args.wants.now c.book_all.new.booked c.book_all.new.low) c.per_page-per_page.ensures.value c.in-Ok-book_all.ensures.given)

some_given : (c : After-show_all) → 0 < length (streamings c.args.wants.now c.deref.result.now)
some_given c =
    let long = given_long c.self.inside.bounce.per_page c.self.inside.low c.book_all.new.low c.self.inside.mappings.made c.args.wants.now c.deref.result.now (all_given c) in
    let some : 0 < length c.args.wants.now = c.requires.some in
    omega (arith, long, some)

live_is : (c : After-show_all) → mappings_of c.book_all.new.mappings.entries ≡ mappings_of c.self.inside.mappings.entries ++ streamings c.args.wants.now c.deref.result.now
live_is c =
    let same : c.book_all.new.booked ≡ c.deref.result.now = grind (arith, common_steps) in
    ap (λ (n : Numbered Bounced). mappings_of n.entries) c.in-Ok-book_all.ensures.numbered
    ∙ all_mapped c.self.inside.mappings.entries c.args.wants.now c.book_all.new.booked
    ∙ ap (λ (bs : List Booked). mappings_of c.self.inside.mappings.entries ++ streamings c.args.wants.now bs) same

made_is : (c : After-show_all) → c.book_all.new.mappings.made ≡ c.self.inside.mappings.made + length (streamings c.args.wants.now c.deref.result.now)
made_is c =
    ap (λ (n : Numbered Bounced). n.made) c.in-Ok-book_all.ensures.numbered
    ∙ ap (λ (k : ℕ). c.self.inside.mappings.made + k)
    (sym (given_long c.self.inside.bounce.per_page c.self.inside.low c.book_all.new.low c.self.inside.mappings.made c.args.wants.now c.deref.result.now (all_given c)))

pub invariant_of-self-2 : goal.invariant_of-self-2
invariant_of-self-2 c =
    let at = (goal.at.invariant_of-self-2 c).After-show_all in
    let h : Held = the_view c.self.inside in
    let ms : List Streaming = streamings c.args.wants.now c.deref.result.now in
    fit_with (record h { bounce = c.show_all.new.bounce; is_shown = true }) (mappings_of c.book_all.new.mappings.entries) (h.live ++ ms) c.book_all.new.mappings.made (h.maps + length ms) (live_is at) (made_is at)
    (subst (λ (k : Held). IsFit k c.book_all.new.low c.self.inside.high c.show_all.new.uses) (with_mappings_is h c.show_all.new.bounce ms (some_given at))
    (c.show_all.ensures.fit h c.self.inside.low c.self.inside.high c.book_all.new.low refl c.self.invariant (all_given at)))

pub returns-clause-ok : goal.returns-clause-ok
returns-clause-ok c = λ x acts ms s of is.
    let at = (goal.at.returns-clause-ok c).After-show_all in
    let h : Held = the_view c.self.inside in
    let t : Stands x acts h c.args.pool.now = stands_inside c.self.view_is s in
    let all : List Streaming = streamings c.args.wants.now c.deref.result.now in
    let there : placed_mappings x (taken_slots acts) (maps acts) c.args.wants.now ≡ Some all =
    ap (λ (k : ℕ). placed_mappings x (taken_slots acts) k c.args.wants.now) (sym t.maps)
    ∙ all_placed x c.self.inside.bounce.per_page c.self.inside.low c.book_all.new.low h.maps (map mapping_holds h.live) (taken_slots acts) c.args.wants.now c.deref.result.now
    (t.per_page ∙ sym c.self.invariant.low_first) (t.bounce ∙ sym c.self.invariant.low_end) c.self.invariant.maps
    (seen_of x acts h c.args.pool.now c.self.inside.low c.self.inside.high c.self.inside.uses t c.self.invariant)
    (grind (arith, common_steps)) (all_given at) in
    let same : all ≡ ms = some_same (sym there ∙ is) in
    let grown : Stands x acts h c.book_all.new.pool = grown_stands x acts h c.args.pool.now c.book_all.new.pool c.book_all.ensures.grows t in
    subst (λ (l : List Streaming). Stands x (map_acts l ++ acts) (record h { bounce = c.show_all.new.bounce; live = mappings_of c.book_all.new.mappings.entries; maps = c.book_all.new.mappings.made; is_shown = true }) c.show_all.new.pool) same
    (stands_with (record h { bounce = c.show_all.new.bounce; is_shown = true }) (mappings_of c.book_all.new.mappings.entries) (h.live ++ all) c.book_all.new.mappings.made (h.maps + length all) (live_is at) (made_is at)
    (subst (λ (k : Held). Stands x (map_acts all ++ acts) k c.show_all.new.pool) (with_mappings_is h c.show_all.new.bounce all (some_given at))
    (c.show_all.ensures.stands h c.self.inside.low c.self.inside.high c.book_all.new.low refl c.self.invariant (all_given at) x acts grown of)))

pub returns-clause-place : goal.returns-clause-place
returns-clause-place c = λ x acts s.
    let at = (goal.at.returns-clause-place c).After-show_all in
    let h : Held = the_view c.self.inside in
    let t : Stands x acts h c.args.pool.now = stands_inside c.self.view_is s in (
      c.made-first.ensures ∙ t.maps,
      ap is_some (ap (λ (k : ℕ). placed_mappings x (taken_slots acts) k c.args.wants.now) (sym t.maps)
          ∙ all_placed x c.self.inside.bounce.per_page c.self.inside.low c.book_all.new.low h.maps (map mapping_holds h.live) (taken_slots acts) c.args.wants.now c.deref.result.now
          (t.per_page ∙ sym c.self.invariant.low_first) (t.bounce ∙ sym c.self.invariant.low_end) c.self.invariant.maps
          (seen_of x acts h c.args.pool.now c.self.inside.low c.self.inside.high c.self.inside.uses t c.self.invariant)
          (grind (arith, common_steps)) (all_given at)),
    )
