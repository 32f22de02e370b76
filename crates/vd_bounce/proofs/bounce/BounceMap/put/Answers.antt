use Rattle.std.proofs.Common.{◌≡◌, ◌<◌, length, arith, sym, subst, ap, []}
use Rattle.std.specs.Prelude.{unwrap_or}
use Rattle.std.proofs.lemmas.Grind.{common_steps}
use Rattle.std.specs.Option.{option_map}
use Rattle.vd_bounce.specs.Bounce.{Bounce, IsThere}
use Rattle.vd_bounce.proofs.There.{there_end}
use Rattle.vd_bounce.proofs.bounce.BounceMap.put.Goals as goal

pub put-requires-clause-end : goal.put-requires-clause-end
put-requires-clause-end c =
    let b : Bounce = record { frames = c.self.inside.frames.items; area = option_map (λ v. v.items) c.self.inside.area; user = c.self.inside.user; per_page = c.self.inside.per_page } in
    let any : 0 < length c.args.bytes.now = grind (arith, common_steps) in
    let ends = there_end b c.args.at (length c.args.bytes.now) c.self.invariant.some any (subst (λ (t : Bounce). IsThere t c.args.at (length c.args.bytes.now)) (sym c.self.view_is) c.requires.there) in
    let small = c.self.invariant.small in
    omega arith

pub overflow_add-user : goal.overflow_add-user
overflow_add-user c =
    let b : Bounce = record { frames = c.self.inside.frames.items; area = option_map (λ v. v.items) c.self.inside.area; user = c.self.inside.user; per_page = c.self.inside.per_page } in
    let any : 0 < length c.args.bytes.now = grind (arith, common_steps) in
    let ends = there_end b c.args.at (length c.args.bytes.now) c.self.invariant.some any (subst (λ (t : Bounce). IsThere t c.args.at (length c.args.bytes.now)) (sym c.self.view_is) c.requires.there) in
    let room = c.self.invariant.user c.in-Some.user c.in-Some.is in
    let held : length (unwrap_or (option_map (λ v. v.items) c.self.inside.area) []) ≡ length c.in-Some-area.area.items = ap (λ o. length (unwrap_or (option_map (λ v. v.items) o) [])) c.in-Some-area.is in
    let lent : length c.deref_mut.result.now ≡ length c.in-Some-area.area.items = ap length c.deref_mut.ensures.value in
    let most = c.deref_mut.type_inv.1 in
    omega arith

pub write_at-requires : goal.write_at-requires
write_at-requires c =
    let b : Bounce = record { frames = c.self.inside.frames.items; area = option_map (λ v. v.items) c.self.inside.area; user = c.self.inside.user; per_page = c.self.inside.per_page } in
    let any : 0 < length c.args.bytes.now = grind (arith, common_steps) in
    let ends = there_end b c.args.at (length c.args.bytes.now) c.self.invariant.some any (subst (λ (t : Bounce). IsThere t c.args.at (length c.args.bytes.now)) (sym c.self.view_is) c.requires.there) in
    let room = c.self.invariant.user c.in-Some.user c.in-Some.is in
    let held : length (unwrap_or (option_map (λ v. v.items) c.self.inside.area) []) ≡ length c.in-Some-area.area.items = ap (λ o. length (unwrap_or (option_map (λ v. v.items) o) [])) c.in-Some-area.is in
    let lent : length c.deref_mut.result.now ≡ length c.in-Some-area.area.items = ap length c.deref_mut.ensures.value in
    let most = c.deref_mut.type_inv.1 in
    omega arith
