use Rattle.std.proofs.Common.{◌≡◌, ℕ, ◌+◌, ◌-◌, ◌/◌, arith, ap, sym, subst, ◌∙◌, refl, Some, None, ◌&&◌, not, true, true≢false, if◌then◌else◌}
use Rattle.std.specs.Prelude.{is_some}
use Rattle.vd_num.specs.Number.{is_within, pages_of}
use Rattle.vd_bounce.specs.Bounce.{Iova, page_size, value}
use Rattle.vd_bounce.specs.Frames.{frame_of}
use Rattle.vd_model.specs.Acts.{Coherent}
use Rattle.vd_domain.specs.Numbered.{Numbered}
use Rattle.vd_domain.specs.declared.streaming.Extent.{Extent}
use Rattle.vd_domain.specs.Lists.{region_at, regions_of}
use Rattle.vd_domain.specs.Held.{Held, bounce_slots, coherent_of, has_slot, region_holds}
use Rattle.vd_domain.specs.contracts.domain.Domain.{the_view}
use Rattle.vd_domain.proofs.Entries.{kept_fewer}
use Rattle.vd_domain.proofs.Holdings.{Loses}
use Rattle.vd_domain.proofs.Opened.{stands_inside}
use Rattle.vd_domain.proofs.Sharing.{stands_regions, fit_regions, region_inside_of, region_outside, same_region, no_region, region_lies, RegionLies}
use Rattle.vd_domain.proofs.Ended.{others_of, ended_fit, freed, gone}
use Rattle.vd_domain.proofs.domain.Domain.free_coherent.Goals as goal
use Rattle.vd_domain.proofs.domain.Domain.free_coherent.Goals.{In-Some, In-None, After-remove}

missing : (c : In-None) → coherent_of c.args.self.now c.args.number ≡ None
missing c = c.in-None.ensures.live

abbrev ended : (c : In-Some) → Coherent
ended c = region_at (c.args.number, c.in-Some.region)

found : (c : In-Some) → coherent_of (the_view c.self.inside) c.args.number ≡ Some (ended c)
found c = region_inside_of c.args.number (ended c) c.self.view_is c.in-Some.ensures.live

lies : (c : In-Some) → RegionLies (the_view c.self.inside) c.self.inside.high (ended c)
lies c = region_lies (the_view c.self.inside) c.self.inside.low c.self.inside.high c.self.inside.uses c.self.invariant c.args.number (ended c) (found c)

is_region : (c : In-Some) (r : Coherent) → coherent_of c.args.self.now c.args.number ≡ Some r → r ≡ ended c
is_region c r e = same_region c.args.self.now c.args.number r (ended c) e c.in-Some.ensures.live

pub give_back-requires-clause-low : goal.give_back-requires-clause-low
give_back-requires-clause-low c = (lies (goal.at.give_back-requires-clause-low c).In-Some).begins

pub give_back-requires-clause-range : goal.give_back-requires-clause-range
give_back-requires-clause-range c = (lies (goal.at.give_back-requires-clause-range c).In-Some).range

pub give_back-requires-clause-small : goal.give_back-requires-clause-small
give_back-requires-clause-small c = let small = c.self.invariant.small in ((lies (goal.at.give_back-requires-clause-small c).In-Some).small, omega arith)

pub give_back-requires-clause-taken : goal.give_back-requires-clause-taken
give_back-requires-clause-taken c = (lies (goal.at.give_back-requires-clause-taken c).In-Some).taken

pub returns-in-None-clause-none : goal.returns-in-None-clause-none
returns-in-None-clause-none c = ((λ _. missing c), (λ _. refl))

pub returns-in-None-clause-ok : goal.returns-in-None-clause-ok
returns-in-None-clause-ok c = λ x acts m r e s. absurd (no_region {r = r} (sym (missing c) ∙ e))

pub returns-in-None-clause-absent : goal.returns-in-None-clause-absent
returns-in-None-clause-absent c = λ r p e here. absurd (no_region {r = r} (sym (missing c) ∙ e))

rest_is : (c : After-remove) → regions_of c.remove.new.self.entries ≡ others_of c.args.number (regions_of c.self.inside.regions.entries)
rest_is c = ap (λ (n : Numbered Extent). regions_of n.entries) c.remove.ensures ∙ kept_fewer region_at (λ (r : Coherent). r.number) (λ e. refl) c.args.number c.self.inside.regions.entries

made_is : (c : After-remove) → c.remove.new.self.made ≡ c.self.inside.regions.made
made_is c = ap (λ (n : Numbered Extent). n.made) c.remove.ensures

pub invariant_of-self : goal.invariant_of-self
invariant_of-self c =
    let at = goal.at.invariant_of-self c in
    let h : Held = the_view c.self.inside in
    let r : Coherent = ended at.In-Some in
    let loses : Loses (region_holds r) c.self.inside.high c.give_back.new.high =
    record { first = c.give_back.ensures.space.0; top = c.give_back.ensures.space.1; taken = c.give_back.ensures.space.2 } in
    fit_regions (record h { shared = c.give_back.new.shared; store = c.give_back.new.store }) (regions_of c.remove.new.self.entries) (others_of c.args.number h.regions) c.remove.new.self.made h.made (rest_is at.After-remove) (made_is at.After-remove)
    (ended_fit h c.self.inside.low c.self.inside.high c.self.inside.uses c.self.invariant c.args.number r (found at.In-Some) c.give_back.new.shared c.give_back.new.store c.give_back.ensures.same
    c.give_back.ensures.frames c.give_back.ensures.bytes c.give_back.new.high h.made c.give_back.ensures.kept.holds c.give_back.ensures.kept.size loses (λ n below other. below))

pub returns-clause-none : goal.returns-clause-none
returns-clause-none c =
    let i = (goal.at.returns-clause-none c).In-Some in
    let there = region_outside c.args.number (Some (ended i)) c.self.view_is (found i) in
    ((λ e. absurd (true≢false (sym e))), (λ e. absurd (no_region {r = ended i} (sym e ∙ there))))

pub returns-clause-ok : goal.returns-clause-ok
returns-clause-ok c = λ x acts m r e s.
    let at = goal.at.returns-clause-ok c in
    let h : Held = the_view c.self.inside in
    stands_regions (record h { shared = c.give_back.new.shared; store = c.give_back.new.store }) (regions_of c.remove.new.self.entries) (others_of c.args.number h.regions) c.remove.new.self.made h.made (rest_is at.After-remove) (made_is at.After-remove)
    (freed h c.self.inside.low c.self.inside.high c.self.inside.uses c.self.invariant c.args.number r (region_inside_of c.args.number r c.self.view_is e) c.give_back.new.shared c.give_back.new.store c.give_back.ensures.same
    (subst (λ (t : Coherent). (p : ℕ) → is_some (frame_of c.give_back.new.shared.frames p) ≡ (not (is_within (t.slot - bounce_slots h) (pages_of t.len) p) && is_some (frame_of h.shared.frames p))) (sym (is_region at.In-Some r e)) c.give_back.ensures.frames)
    (subst (λ (t : Coherent). (k : ℕ) → value c.give_back.new.shared c.give_back.new.store (Iova k) ≡ (if is_within (t.slot - bounce_slots h) (pages_of t.len) (k / page_size h.shared) then 0 else value h.shared h.store (Iova k))) (sym (is_region at.In-Some r e)) c.give_back.ensures.bytes)
    x acts m (stands_inside c.self.view_is s))

pub returns-clause-absent : goal.returns-clause-absent
returns-clause-absent c = λ r p e here.
    let at = goal.at.returns-clause-absent c in
    let h : Held = the_view c.self.inside in
    let slot : has_slot (bounce_slots h + p) (ended at.In-Some) ≡ true =
    subst (λ (t : Held). has_slot (bounce_slots t + p) (ended at.In-Some) ≡ true) (sym c.self.view_is) (subst (λ (t : Coherent). has_slot (bounce_slots c.args.self.now + p) t ≡ true) (is_region at.In-Some r e) here) in
    gone h c.self.inside.low c.self.inside.high c.self.inside.uses c.self.invariant c.args.number (ended at.In-Some) (found at.In-Some) c.give_back.new.shared c.give_back.new.store c.give_back.ensures.same
    c.give_back.ensures.frames c.give_back.ensures.bytes p slot
