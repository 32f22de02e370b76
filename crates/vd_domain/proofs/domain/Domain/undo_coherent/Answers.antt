use Rattle.std.proofs.Common.{◌≡◌, ℕ, ◌-◌, ◌/◌, arith, ap, sym, subst, ◌∙◌, refl, Some, None, ◌&&◌, not, true≢false, if◌then◌else◌}
use Rattle.std.specs.Prelude.{is_some}
use Rattle.vd_num.specs.Number.{is_within, pages_of}
use Rattle.vd_bounce.specs.Bounce.{Iova, page_size, value}
use Rattle.vd_bounce.specs.Frames.{frame_of}
use Rattle.vd_model.specs.Acts.{Coherent}
use Rattle.vd_domain.specs.Numbered.{Numbered}
use Rattle.vd_domain.specs.declared.streaming.Extent.{Extent}
use Rattle.vd_domain.specs.Lists.{region_at, regions_of}
use Rattle.vd_domain.specs.Held.{Held, bounce_slots, coherent_of, region_holds}
use Rattle.vd_domain.specs.contracts.domain.Domain.{the_view}
use Rattle.vd_domain.proofs.Entries.{kept_fewer}
use Rattle.vd_domain.proofs.Holdings.{Loses}
use Rattle.vd_domain.proofs.Opened.{stands_inside}
use Rattle.vd_domain.proofs.Sharing.{stands_regions, fit_regions, region_inside_of, same_region, region_lies, RegionLies}
use Rattle.vd_domain.proofs.Ended.{others_of, ended_fit, undone, last_less}
use Rattle.vd_domain.proofs.domain.Domain.undo_coherent.Goals as goal
use Rattle.vd_domain.proofs.domain.Domain.undo_coherent.Goals.{In-Some, In-None, After-undo}

missing : (c : In-None) → coherent_of c.args.self.now c.args.number ≡ None
missing c = c.in-None.ensures.live

abbrev ended : (c : In-Some) → Coherent
ended c = region_at (c.args.number, c.in-Some.region)

found : (c : In-Some) → coherent_of (the_view c.self.inside) c.args.number ≡ Some (ended c)
found c = region_inside_of c.args.number (ended c) c.self.view_is c.in-Some.ensures.live

lies : (c : In-Some) → RegionLies (the_view c.self.inside) c.self.inside.high (ended c)
lies c = region_lies (the_view c.self.inside) c.self.inside.low c.self.inside.high c.self.inside.uses c.self.invariant c.args.number (ended c) (found c)

is_region : (c : In-Some) (r : Coherent) → coherent_of c.args.self.now c.args.number ≡ Some r → r ≡ ended c
is_region c r e = same_region c.args.self.now c.args.number r (ended c) e c.in-Some.ensures.live

pub give_back-requires-clause-low : goal.give_back-requires-clause-low
give_back-requires-clause-low c = (lies (goal.at.give_back-requires-clause-low c).In-Some).begins

pub give_back-requires-clause-range : goal.give_back-requires-clause-range
give_back-requires-clause-range c = (lies (goal.at.give_back-requires-clause-range c).In-Some).range

pub give_back-requires-clause-small : goal.give_back-requires-clause-small
give_back-requires-clause-small c = let small = c.self.invariant.small in ((lies (goal.at.give_back-requires-clause-small c).In-Some).small, omega arith)

pub give_back-requires-clause-taken : goal.give_back-requires-clause-taken
give_back-requires-clause-taken c = (lies (goal.at.give_back-requires-clause-taken c).In-Some).taken

pub unreachable-requires : goal.unreachable-requires
unreachable-requires c = true≢false (sym c.requires.live ∙ ap is_some (missing (goal.at.unreachable-requires c).In-None))

number_is : (c : After-undo) → c.self.inside.regions.made - 1 ≡ c.args.number
number_is c = let last = c.requires.last in let made : c.self.inside.regions.made ≡ c.args.self.now.made = ap (λ (t : Held). t.made) c.self.view_is in omega arith

rest_is : (c : After-undo) → regions_of c.undo.new.self.entries ≡ others_of c.args.number (regions_of c.self.inside.regions.entries)
rest_is c = ap (λ (n : Numbered Extent). regions_of n.entries) c.undo.ensures.rest ∙ kept_fewer region_at (λ (r : Coherent). r.number) (λ e. refl) (c.self.inside.regions.made - 1) c.self.inside.regions.entries
    ∙ ap (λ n. others_of n (regions_of c.self.inside.regions.entries)) (number_is c)

made_is : (c : After-undo) → c.undo.new.self.made ≡ c.self.inside.regions.made - 1
made_is c = ap (λ (n : Numbered Extent). n.made) c.undo.ensures.rest

pub invariant_of-self : goal.invariant_of-self
invariant_of-self c =
    let at = goal.at.invariant_of-self c in
    let h : Held = the_view c.self.inside in
    let r : Coherent = ended at.In-Some in
    let number = number_is at.After-undo in
    let loses : Loses (region_holds r) c.self.inside.high c.give_back.new.high =
    record { first = c.give_back.ensures.space.0; top = c.give_back.ensures.space.1; taken = c.give_back.ensures.space.2 } in
    fit_regions (record h { shared = c.give_back.new.shared; store = c.give_back.new.store }) (regions_of c.undo.new.self.entries) (others_of c.args.number h.regions) c.undo.new.self.made (h.made - 1) (rest_is at.After-undo) (made_is at.After-undo)
    (ended_fit h c.self.inside.low c.self.inside.high c.self.inside.uses c.self.invariant c.args.number r (found at.In-Some) c.give_back.new.shared c.give_back.new.store c.give_back.ensures.same
    c.give_back.ensures.frames c.give_back.ensures.bytes c.give_back.new.high (h.made - 1) c.give_back.ensures.kept.holds c.give_back.ensures.kept.size loses (λ n below other. last_less c.self.inside.regions.made n c.args.number number below other))

pub returns-clause-undone : goal.returns-clause-undone
returns-clause-undone c = λ x acts m r e s.
    let at = goal.at.returns-clause-undone c in
    let h : Held = the_view c.self.inside in
    stands_regions (record h { shared = c.give_back.new.shared; store = c.give_back.new.store }) (regions_of c.undo.new.self.entries) (others_of c.args.number h.regions) c.undo.new.self.made (h.made - 1) (rest_is at.After-undo) (made_is at.After-undo)
    (undone h c.self.inside.low c.self.inside.high c.self.inside.uses c.self.invariant c.args.number r (region_inside_of c.args.number r c.self.view_is e) c.give_back.new.shared c.give_back.new.store c.give_back.ensures.same
    (subst (λ (t : Coherent). (p : ℕ) → is_some (frame_of c.give_back.new.shared.frames p) ≡ (not (is_within (t.slot - bounce_slots h) (pages_of t.len) p) && is_some (frame_of h.shared.frames p))) (sym (is_region at.In-Some r e)) c.give_back.ensures.frames)
    (subst (λ (t : Coherent). (k : ℕ) → value c.give_back.new.shared c.give_back.new.store (Iova k) ≡ (if is_within (t.slot - bounce_slots h) (pages_of t.len) (k / page_size h.shared) then 0 else value h.shared h.store (Iova k))) (sym (is_region at.In-Some r e)) c.give_back.ensures.bytes)
    x acts m (stands_inside c.self.view_is s))
