use Rattle.std.proofs.Common.{◌≡◌, ℕ, ◌+◌, ◌≤◌, length, arith, ap, ◌∙◌, []}
use Rattle.std.specs.List.{slice_index}
use Rattle.std.specs.Prelude.{unwrap_or}
use Rattle.vd_model.specs.Puts as puts
use Rattle.vd_domain.specs.Held.{Held}
use Rattle.vd_domain.specs.Stands.{last_byte}
use Rattle.vd_domain.proofs.EachFrom.{each_from_is}
use Rattle.vd_domain.proofs.domain.Domain.area_get.Goals as goal

pub returns : goal.returns
returns c = λ x acts m s.
    let held : ℕ = length (unwrap_or c.args.self.now.bounce.area []) in
    let same : length (unwrap_or c.self.inside.bounce.area []) ≡ held = ap (λ (h : Held). length (unwrap_or h.bounce.area [])) c.self.view_is in
    let room : c.args.offset + length c.args.out.now ≤ held = c.requires in
    each_from_is (λ o. last_byte x acts (puts.Area o)) c.args.offset (length c.args.out.now) c.area_get.new.out c.area_get.auto.out
    (λ i below. c.area_get.ensures i below
    ∙ ap (λ (h : Held). slice_index (unwrap_or h.bounce.area []) (c.args.offset + i)) c.self.view_is
    ∙ s.area_bytes (c.args.offset + i) (omega (arith, room, below)))
