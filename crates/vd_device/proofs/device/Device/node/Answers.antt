use Rattle.std.proofs.Common.{◌≡◌, true, false, refl, ap, sym, ◌∙◌, not, ◌&&◌}
use Rattle.vd_num.specs.declared.errno.Errno.TheVariants.{Badf}
use Rattle.vd_model.specs.Live.{is_open}
use Rattle.vd_model.specs.NodeTurns.{opens, open_node_turn}
use Rattle.vd_answers.proofs.Telling.{tells_by, tells_ok, may_tell_as}
use Rattle.vd_device.proofs.Turns.{test_holds, test_fails}
use Rattle.vd_device.proofs.device.Device.node.Goals as goal

pub returns-then-lacks_session-clause-line : goal.returns-then-lacks_session-clause-line
returns-then-lacks_session-clause-line g c = λ x made acts s.
    let test : (not (opens c.args.step.now) && not (is_open acts)) ≡ true = ap (λ b. not (opens c.args.step.now) && not b) (sym s.path.opened) ∙ sym c.lacks_session.ensures ∙ c.if-lacks_session.true in
    tells_ok (tells_by (test_holds _ Badf (open_node_turn x made acts c.args.step.now) test) refl c.refused.ensures s)

pub returns-clause-line : goal.returns-clause-line
returns-clause-line g c = λ x made acts s.
    let test : (not (opens c.args.step.now) && not (is_open acts)) ≡ false = ap (λ b. not (opens c.args.step.now) && not b) (sym s.path.opened) ∙ sym c.lacks_session.ensures ∙ c.if-lacks_session.false in
    may_tell_as (test_fails _ Badf (open_node_turn x made acts c.args.step.now) test) (c.open_node.ensures.line x made acts s)
