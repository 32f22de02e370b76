use Rattle.std.proofs.Common.{◌≡◌, ℕ, ◌+◌, ◌*◌, ◌<◌, ◌≤◌, arith, ap, sym, subst, ◌∙◌, refl, Some, None, true, false, true≢false, length, filter, not, ◌==◌}
use Rattle.vd_num.specs.Number.{is_within, pages_of}
use Rattle.vd_bounce.proofs.Pages.{within_high}
use Rattle.vd_iova.specs.Space.{Space, taken_at}
use Rattle.vd_model.specs.Acts.{Streaming}
use Rattle.vd_model.specs.Puts.{is_from_device, bus_bytes}
use Rattle.vd_model.specs.Live.{iova_of}
use Rattle.vd_domain.specs.Slots.{meets_slots}
use Rattle.vd_domain.specs.Numbered.{Numbered}
use Rattle.vd_domain.specs.declared.streaming.Bounced.{Bounced}
use Rattle.vd_domain.specs.Lists.{mapping_at, mappings_of, regions_of}
use Rattle.vd_domain.specs.Held.{Held, mapping_of, mapping_holds}
use Rattle.vd_domain.proofs.Entries.{kept_fewer}
use Rattle.vd_domain.proofs.Holdings.{Loses}
use Rattle.vd_domain.proofs.Fits.{live_inside, live_there, live_counted, unmapped_fit}
use Rattle.vd_domain.proofs.Steps.{fetched, unmapped}
use Rattle.vd_domain.specs.contracts.domain.Domain.{the_view}
use Rattle.vd_domain.proofs.Opened.{stands_inside, stands_with, fit_with, found_inside, not_found, same_found}
use Rattle.vd_domain.proofs.domain.Domain.unmap.Goals as goal
use Rattle.vd_domain.proofs.domain.Domain.unmap.Goals.{In-Some, In-None, After-pages, After-pages_met, After-remove, then-is_from_device, else-is_from_device}

missing : (c : In-None) → mapping_of c.args.self.now c.args.number ≡ None
missing c = c.in-None.ensures.live

pub returns-in-None-clause-none : goal.returns-in-None-clause-none
returns-in-None-clause-none c = ((λ _. missing c), (λ _. refl))

pub returns-in-None-clause-ok : goal.returns-in-None-clause-ok
returns-in-None-clause-ok c = λ x acts m e s. absurd (not_found {m = m} (sym (missing c) ∙ e))

pub returns-in-None-clause-given : goal.returns-in-None-clause-given
returns-in-None-clause-given c = λ x acts m e s d. absurd (not_found {m = m} (sym (missing c) ∙ e))

found : (c : In-Some) → mapping_of (the_view c.self.inside) c.args.number ≡ Some (mapping_at (c.args.number, c.in-Some.m))
found c = found_inside c.args.number (mapping_at (c.args.number, c.in-Some.m)) c.self.view_is c.in-Some.ensures.live

lies : (c : In-Some) → (0 < pages_of c.in-Some.m.want.len) × (c.in-Some.m.slot + pages_of c.in-Some.m.want.len ≤ c.self.inside.bounce.per_page * length c.self.inside.bounce.frames) × (0 < taken_at c.self.inside.low c.in-Some.m.slot)
lies c = live_inside _ _ _ _ c.self.invariant c.args.number (mapping_at (c.args.number, c.in-Some.m)) (found c)

long : (c : In-Some) → length c.args.out.now ≡ c.in-Some.m.want.len
long c = c.requires.room (mapping_at (c.args.number, c.in-Some.m)) c.in-Some.ensures.live

pub overflow_mul-m : goal.overflow_mul-m
overflow_mul-m c =
    let i = lies (goal.at.overflow_mul-m c).In-Some in
    let some = i.0 in
    let top = i.1 in
    let small = c.self.invariant.small in
    omega arith

pub get-requires-clause-there : goal.get-requires-clause-there
get-requires-clause-there c =
    let i = (goal.at.get-requires-clause-there c).In-Some in
    let l = long i in
    λ a low high. (live_there _ _ _ _ c.self.invariant c.args.number (mapping_at (c.args.number, c.in-Some.m)) (found i) a low (omega arith)).1

pub pages_met-requires-clause-some : goal.pages_met-requires-clause-some
pages_met-requires-clause-some c = subst (λ n. 0 < n) (sym c.pages.ensures.value) (lies (goal.at.pages_met-requires-clause-some c).In-Some).0

pub pages_met-requires-clause-end : goal.pages_met-requires-clause-end
pages_met-requires-clause-end c =
    let i = lies (goal.at.pages_met-requires-clause-end c).In-Some in
    let top = i.1 in
    let small = c.self.invariant.small in
    let n : c.pages.result ≡ pages_of c.in-Some.m.want.len = c.pages.ensures.value in
    let fits : c.in-Some.m.slot + c.pages.result ≤ c.self.inside.bounce.per_page * length c.self.inside.bounce.frames = subst (λ n. c.in-Some.m.slot + n ≤ c.self.inside.bounce.per_page * length c.self.inside.bounce.frames) (sym n) top in
    omega arith

range : (c : After-pages_met) (i : In-Some) → c.in-Some.m.slot + pages_of c.in-Some.m.want.len ≤ c.self.inside.bounce.per_page * length c.self.inside.bounce.frames
    → c.pages_met.result.first + c.pages_met.result.count ≤ length c.self.inside.bounce.frames
range c i top =
    let fits : c.in-Some.m.slot + c.pages.result ≤ c.self.inside.bounce.per_page * length c.self.inside.bounce.frames =
    subst (λ n. c.in-Some.m.slot + n ≤ c.self.inside.bounce.per_page * length c.self.inside.bounce.frames) (sym c.pages.ensures.value) top in
    c.pages_met.ensures.inside (length c.self.inside.bounce.frames)
    (subst (λ g. c.in-Some.m.slot + c.pages.result ≤ g * length c.self.inside.bounce.frames) (sym c.per_page-per_page.ensures.value) fits)

met : (c : After-pages_met) (p : ℕ) → is_within c.pages_met.result.first c.pages_met.result.count p ≡ meets_slots c.self.inside.bounce.per_page p c.in-Some.m.slot (pages_of c.in-Some.m.want.len)
met c p =
    c.pages_met.ensures.met p ∙ ap (λ g. meets_slots g p c.in-Some.m.slot c.pages.result) c.per_page-per_page.ensures.value
    ∙ ap (λ n. meets_slots c.self.inside.bounce.per_page p c.in-Some.m.slot n) c.pages.ensures.value

pub leave-requires-clause-range : goal.leave-requires-clause-range
leave-requires-clause-range c =
    let at = goal.at.leave-requires-clause-range c in
    subst (λ n. c.pages_met.result.first + c.pages_met.result.count ≤ n) (sym c.self.invariant.each) (range c at.In-Some (lies at.In-Some).1)

pub leave-requires-clause-some : goal.leave-requires-clause-some
leave-requires-clause-some c =
    let at = goal.at.leave-requires-clause-some c in
    λ p inside.
    let high = within_high c.pages_met.result.first c.pages_met.result.count p inside in
    let top = range c at.In-Some (lies at.In-Some).1 in
    live_counted _ _ _ _ c.self.invariant c.args.number (mapping_at (c.args.number, c.in-Some.m)) (found at.In-Some) p (omega arith) (sym (met c p) ∙ inside)

pub give-requires : goal.give-requires
give-requires c = (lies (goal.at.give-requires c).In-Some).2

rest_is : (c : After-remove) → mappings_of c.remove.new.self.entries ≡ filter (λ (k : Streaming). not (k.number == c.args.number)) (mappings_of c.self.inside.mappings.entries)
rest_is c = ap (λ (n : Numbered Bounced). mappings_of n.entries) c.remove.ensures ∙ kept_fewer mapping_at (λ (m : Streaming). m.number) (λ e. refl) c.args.number c.self.inside.mappings.entries

made_is : (c : After-remove) → c.remove.new.self.made ≡ c.self.inside.mappings.made
made_is c = ap (λ (n : Numbered Bounced). n.made) c.remove.ensures

pub invariant_of-self : goal.invariant_of-self
invariant_of-self c =
    let at = goal.at.invariant_of-self c in
    let loses : Loses (mapping_holds (mapping_at (c.args.number, c.in-Some.m))) c.self.inside.low c.give.new.self =
    record { first = ap (λ (s : Space). s.first) c.give.ensures.new; top = ap (λ (s : Space). s.«end») c.give.ensures.new; taken = c.give.ensures.taken } in
    let h : Held = record {
      bounce = c.self.inside.bounce;
      shared = c.self.inside.shared;
      store = c.self.inside.store;
      live = mappings_of c.self.inside.mappings.entries;
      maps = c.self.inside.mappings.made;
      regions = regions_of c.self.inside.regions.entries;
      made = c.self.inside.regions.made;
      is_shown = c.self.inside.is_shown;
    } in
    fit_with h (mappings_of c.remove.new.self.entries) (filter (λ (k : Streaming). not (k.number == c.args.number)) (mappings_of c.self.inside.mappings.entries))
    c.remove.new.self.made c.self.inside.mappings.made (rest_is c) (made_is c)
    (unmapped_fit h c.self.inside.low c.self.inside.high c.self.inside.uses c.self.invariant c.args.number (mapping_at (c.args.number, c.in-Some.m)) (found at.In-Some)
    c.pages_met.result.first c.pages_met.result.count c.give.new.self c.leave.new.self loses (met at.After-pages_met) c.leave.ensures.counts c.leave.ensures.len)

pub returns-clause-none : goal.returns-clause-none
returns-clause-none c =
    let there = (goal.at.returns-clause-none c).In-Some.in-Some.ensures.live in
    ((λ e. absurd (true≢false (sym e))), (λ e. absurd (not_found {m = mapping_at (c.args.number, c.in-Some.m)} (sym e ∙ there))))

pub returns-clause-ok : goal.returns-clause-ok
returns-clause-ok c = λ x acts m e s.
    let h : Held = record {
      bounce = c.self.inside.bounce;
      shared = c.self.inside.shared;
      store = c.self.inside.store;
      live = mappings_of c.self.inside.mappings.entries;
      maps = c.self.inside.mappings.made;
      regions = regions_of c.self.inside.regions.entries;
      made = c.self.inside.regions.made;
      is_shown = c.self.inside.is_shown;
    } in
    stands_with h (mappings_of c.remove.new.self.entries) (filter (λ (k : Streaming). not (k.number == c.args.number)) (mappings_of c.self.inside.mappings.entries))
    c.remove.new.self.made c.self.inside.mappings.made (rest_is c) (made_is c)
    (unmapped x acts h c.args.pool.now (stands_inside c.self.view_is s) c.self.inside.low c.self.inside.high c.self.inside.uses c.self.invariant c.args.number m (found_inside c.args.number m c.self.view_is e))

is_mapping : (c : In-Some) (m : Streaming) → mapping_of c.args.self.now c.args.number ≡ Some m → m ≡ mapping_at (c.args.number, c.in-Some.m)
is_mapping c m e = same_found c.args.self.now c.args.number m (mapping_at (c.args.number, c.in-Some.m)) e c.in-Some.ensures.live

pub returns-clause-given : goal.returns-clause-given
returns-clause-given c = λ x acts m e s given.
    let i = (goal.at.returns-clause-given c).In-Some in
    let is = is_mapping i m e in
    let way : is_from_device c.in-Some.m.want.dir ≡ true = sym (ap (λ (k : Streaming). is_from_device k.want.dir) is) ∙ given in
    let l = long i in
    let bytes : c.if-is_from_device.out ≡ bus_bytes x.per_page acts (4096 * c.in-Some.m.slot) c.in-Some.m.want.len = elim c.if-is_from_device.branch [
      | then-is_from_device w ↦
          (w.out-is
          ∙ fetched x acts _ _ (stands_inside c.self.view_is s) _ _ _ c.self.invariant (4096 * c.in-Some.m.slot) c.in-Some.m.want.len w.get.new.out (omega arith)
          (live_there _ _ _ _ c.self.invariant c.args.number (mapping_at (c.args.number, c.in-Some.m)) (found i))
          (λ j below. w.get.ensures j (omega arith)))
      | else-is_from_device w ↦ absurd (true≢false (sym way ∙ sym c.is_from_device.ensures ∙ w.if-is_from_device.false))
    ] in
    bytes ∙ sym (ap (λ (k : Streaming). bus_bytes x.per_page acts (iova_of k) k.want.len) is)

pub returns-clause-left : goal.returns-clause-left
returns-clause-left c = λ m e given.
    let i = (goal.at.returns-clause-left c).In-Some in
    let way : is_from_device c.in-Some.m.want.dir ≡ false = sym (ap (λ (k : Streaming). is_from_device k.want.dir) (is_mapping i m e)) ∙ given in
    elim c.if-is_from_device.branch [
      | then-is_from_device w ↦ absurd (true≢false (sym w.if-is_from_device.true ∙ c.is_from_device.ensures ∙ way))
      | else-is_from_device w ↦ w.out-is
    ]
