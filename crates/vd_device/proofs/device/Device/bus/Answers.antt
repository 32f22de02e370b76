use Rattle.std.proofs.Common.{◌≡◌, true, false, refl, ap, sym, ◌∙◌, not, ◌&&◌}
use Rattle.vd_num.specs.declared.errno.Errno.TheVariants.{Nodev}
use Rattle.vd_model.specs.Live.{is_attached}
use Rattle.vd_model.specs.BusTurns.{needs_attachment, attached_turn}
use Rattle.vd_answers.proofs.Telling.{tells_by, tells_ok, may_tell_as}
use Rattle.vd_device.proofs.Turns.{test_holds, test_fails}
use Rattle.vd_device.proofs.device.Device.bus.Goals as goal

pub returns-then-lacks_bus-clause-line : goal.returns-then-lacks_bus-clause-line
returns-then-lacks_bus-clause-line g c = λ x made acts m s.
    let test : (needs_attachment c.args.step.now && not (is_attached acts)) ≡ true = ap (λ b. needs_attachment c.args.step.now && not b) (sym s.path.attached) ∙ sym c.lacks_bus.ensures ∙ c.if-lacks_bus.true in
    tells_ok (tells_by (test_holds _ Nodev (attached_turn made c.args.now acts c.args.step.now) test) refl c.refused.ensures s)

pub returns-clause-line : goal.returns-clause-line
returns-clause-line g c = λ x made acts m s.
    let test : (needs_attachment c.args.step.now && not (is_attached acts)) ≡ false = ap (λ b. needs_attachment c.args.step.now && not b) (sym s.path.attached) ∙ sym c.lacks_bus.ensures ∙ c.if-lacks_bus.false in
    may_tell_as (test_fails _ Nodev (attached_turn made c.args.now acts c.args.step.now) test) (c.attached.ensures.line x made acts m s)
