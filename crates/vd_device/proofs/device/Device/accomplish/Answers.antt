use Rattle.std.proofs.Common.{subst, sym, ap, ◌∙◌, ◌++◌}
use Rattle.vd_model.specs.Acts.{state_acts}
use Rattle.vd_model.specs.BusTurns.{shape_of, asks_reset}
use Rattle.vd_control_path.proofs.Parts.{within_more}
use Rattle.vd_device.specs.Stands.{Stands}
use Rattle.vd_device.specs.Ends.{done_acts}
use Rattle.vd_device.proofs.Taken.{done_some, done_status, stored}
use Rattle.vd_device.proofs.device.Device.accomplish.Goals as goal

pub returns-then-asks_reset-clause-stands : goal.returns-then-asks_reset-clause-stands
returns-then-asks_reset-clause-stands c = λ x made acts m s.
    subst (λ l. Stands x made (l ++ acts) c.clear.new.self m) (sym (done_some c.args.body (sym c.asks_reset.ensures ∙ c.if-asks_reset.true))) (c.clear.ensures.stands x made acts m s)

pub returns-in-Status-clause-stands : goal.returns-in-Status-clause-stands
returns-in-Status-clause-stands c = λ x made acts m s.
    let kept = stored c.set_status.new.self c.in-Status.value s (c.set_status.ensures.stands (shape_of made) (state_acts acts) s.path.state) in
    subst (λ b. Stands x made (done_acts b ++ acts) (record c.args.self.now { path = record c.args.self.now.path { state = c.set_status.new.self } }) m) (sym c.in-Status.is)
    (subst (λ l. Stands x made (l ++ acts) (record c.args.self.now { path = record c.args.self.now.path { state = c.set_status.new.self } }) m)
    (sym (done_status c.in-Status.value (ap asks_reset (sym c.in-Status.is) ∙ sym c.asks_reset.ensures ∙ c.if-asks_reset.false))) kept)

pub returns-in-Status-clause-path : goal.returns-in-Status-clause-path
returns-in-Status-clause-path c = λ most w. within_more most _ (record { state = c.set_status.ensures.counts most w.state; sessions = w.sessions; closings = w.closings })

pub returns-in-VqState-clause-path : goal.returns-in-VqState-clause-path
returns-in-VqState-clause-path c = λ most w. within_more most _ w
