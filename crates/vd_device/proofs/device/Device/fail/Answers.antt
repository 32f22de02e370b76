use Rattle.std.proofs.Common.{subst, sym, ◌∙◌, ◌++◌}
use Rattle.vd_control_path.proofs.Parts.{within_more}
use Rattle.vd_device.specs.Stands.{Stands}
use Rattle.vd_device.proofs.Taken.{failed_none, failed_some}
use Rattle.vd_device.proofs.device.Device.fail.Goals as goal

pub returns-then-not-asks_reset-clause-stands : goal.returns-then-not-asks_reset-clause-stands
returns-then-not-asks_reset-clause-stands c = λ x made acts m s.
    subst (λ l. Stands x made (l ++ acts) c.args.self.now m) (sym (failed_none c.args.body (sym c.asks_reset.ensures ∙ c.if-not-asks_reset.true))) s

pub returns-clause-stands : goal.returns-clause-stands
returns-clause-stands c = λ x made acts m s.
    subst (λ l. Stands x made (l ++ acts) c.clear.new.self m) (sym (failed_some c.args.body (sym c.asks_reset.ensures ∙ c.if-not-asks_reset.false))) (c.clear.ensures.stands x made acts m s)

pub returns-then-not-asks_reset-clause-path : goal.returns-then-not-asks_reset-clause-path
returns-then-not-asks_reset-clause-path c = λ most w. within_more most _ w
