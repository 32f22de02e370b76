use Rattle.std.proofs.Common.{◌≡◌, ◌+◌, ◌*◌, ◌<◌, ◌≤◌, arith, ap, sym, subst, ◌∙◌, refl, ◌∷◌, Some, None, true, false, true≢false, length}
use Rattle.std.proofs.lemmas.Grind.{common_steps}
use Rattle.vd_num.specs.Number.{pages_of}
use Rattle.vd_iova.specs.Space.{taken_at}
use Rattle.vd_model.specs.Acts.{Streaming, Driver, Synced_device}
use Rattle.vd_model.specs.Puts.{is_to_device}
use Rattle.vd_domain.specs.Lists.{mapping_at, mappings_of, regions_of}
use Rattle.vd_domain.specs.Held.{Held, mapping_of}
use Rattle.vd_domain.specs.Stands.{Stands}
use Rattle.vd_domain.specs.Handed.{IsOf}
use Rattle.vd_domain.proofs.Fits.{live_inside, live_there}
use Rattle.vd_domain.proofs.Steps.{synced}
use Rattle.vd_domain.specs.contracts.domain.Domain.{the_view}
use Rattle.vd_domain.proofs.Opened.{stands_inside, found_inside, not_found, same_found}
use Rattle.vd_domain.proofs.domain.Domain.sync_device.Goals as goal
use Rattle.vd_domain.proofs.domain.Domain.sync_device.Goals.{In-Some, In-None}

missing : (c : In-None) → mapping_of c.args.self.now c.args.number ≡ None
missing c = c.in-None.ensures.live

found : (c : In-Some) → mapping_of (the_view c.self.inside) c.args.number ≡ Some (mapping_at (c.args.number, c.in-Some.m))
found c = found_inside c.args.number (mapping_at (c.args.number, c.in-Some.m)) c.self.view_is c.in-Some.ensures.live

there : (c : In-Some) → mapping_of c.args.self.now c.args.number ≡ Some (mapping_at (c.args.number, c.in-Some.m))
there c = c.in-Some.ensures.live

is_mapping : (c : In-Some) (m : Streaming) → mapping_of c.args.self.now c.args.number ≡ Some m → m ≡ mapping_at (c.args.number, c.in-Some.m)
is_mapping c m e = same_found c.args.self.now c.args.number m (mapping_at (c.args.number, c.in-Some.m)) e (there c)

lies : (c : In-Some) → (0 < pages_of c.in-Some.m.want.len) × (c.in-Some.m.slot + pages_of c.in-Some.m.want.len ≤ c.self.inside.bounce.per_page * length c.self.inside.bounce.frames) × (0 < taken_at c.self.inside.low c.in-Some.m.slot)
lies c = live_inside _ _ _ _ c.self.invariant c.args.number (mapping_at (c.args.number, c.in-Some.m)) (found c)

pub returns-in-None-clause-not_live : goal.returns-in-None-clause-not_live
returns-in-None-clause-not_live c = ((λ _. missing c), (λ _. refl))

pub returns-in-None-clause-wrong : goal.returns-in-None-clause-wrong
returns-in-None-clause-wrong c = λ m e. absurd (not_found {m = m} (sym (missing c) ∙ e))

pub returns-then-not-is_to_device-clause-not_live : goal.returns-then-not-is_to_device-clause-not_live
returns-then-not-is_to_device-clause-not_live c =
    ((λ e. absurd (let f = e in cc)), (λ e. absurd (not_found {m = mapping_at (c.args.number, c.in-Some.m)} (sym e ∙ there (goal.at.returns-then-not-is_to_device-clause-not_live c).In-Some))))

pub returns-then-not-is_to_device-clause-wrong : goal.returns-then-not-is_to_device-clause-wrong
returns-then-not-is_to_device-clause-wrong c = λ m e.
    let off : c.is_to_device.result ≡ false = grind (arith, common_steps) in
    ((λ _. ap (λ (k : Streaming). is_to_device k.want.dir) (is_mapping (goal.at.returns-then-not-is_to_device-clause-wrong c).In-Some m e) ∙ sym c.is_to_device.ensures ∙ off), (λ _. refl))

pub overflow_mul-m : goal.overflow_mul-m
overflow_mul-m c =
    let i = lies (goal.at.overflow_mul-m c).In-Some in
    let some = i.0 in
    let top = i.1 in
    let small = c.self.invariant.small in
    omega arith

pub put-requires-clause-there : goal.put-requires-clause-there
put-requires-clause-there c =
    let i = (goal.at.put-requires-clause-there c).In-Some in
    let l : length c.args.bytes.now ≡ c.in-Some.m.want.len = c.requires.text (mapping_at (c.args.number, c.in-Some.m)) (there i) in
    λ a low high. (live_there _ _ _ _ c.self.invariant c.args.number (mapping_at (c.args.number, c.in-Some.m)) (found i) a low (omega arith)).1

pub returns-clause-not_live : goal.returns-clause-not_live
returns-clause-not_live c =
    ((λ e. absurd (let f = e in cc)), (λ e. absurd (not_found {m = mapping_at (c.args.number, c.in-Some.m)} (sym e ∙ there (goal.at.returns-clause-not_live c).In-Some))))

pub returns-clause-wrong : goal.returns-clause-wrong
returns-clause-wrong c = λ m e.
    let on : c.is_to_device.result ≡ true = grind (arith, common_steps) in (
      (λ f. absurd (let g = f in cc)),
      (λ f. absurd (true≢false (sym on ∙ c.is_to_device.ensures ∙ sym (ap (λ (k : Streaming). is_to_device k.want.dir) (is_mapping (goal.at.returns-clause-wrong c).In-Some m e)) ∙ f))),
    )

pub returns-clause-ok : goal.returns-clause-ok
returns-clause-ok c = λ x acts m e s of.
    let i = (goal.at.returns-clause-ok c).In-Some in
    let l : length c.args.bytes.now ≡ c.in-Some.m.want.len = c.requires.text (mapping_at (c.args.number, c.in-Some.m)) (there i) in
    let is = is_mapping i m e in
    let h : Held = record {
      bounce = c.self.inside.bounce;
      shared = c.self.inside.shared;
      store = c.self.inside.store;
      live = mappings_of c.self.inside.mappings.entries;
      maps = c.self.inside.mappings.made;
      regions = regions_of c.self.inside.regions.entries;
      made = c.self.inside.regions.made;
      is_shown = c.self.inside.is_shown;
    } in
    let way : IsOf x.per_page acts c.in-Some.m.want c.args.bytes.now = subst (λ (k : Streaming). IsOf x.per_page acts k.want c.args.bytes.now) is of in
    subst (λ (k : Streaming). Stands x (Driver (Synced_device k) ∷ acts) (record h { bounce = c.put.new.self }) c.put.new.pool) (sym is)
    (synced x acts h c.args.pool.now (stands_inside c.self.view_is s) c.self.inside.low c.self.inside.high c.self.inside.uses c.self.invariant (mapping_at (c.args.number, c.in-Some.m)) c.args.bytes.now way l (lies i).1
    c.put.new.self c.put.new.pool c.put.ensures.same c.put.ensures.present c.put.ensures.bytes)
