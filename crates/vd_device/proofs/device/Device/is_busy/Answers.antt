use Rattle.std.proofs.Common.{ap, sym, ◌∙◌, nat_lt, ◌||◌}
use Rattle.vd_model.specs.Acts.{message_acts}
use Rattle.vd_model.specs.Messages.{untaken}
use Rattle.vd_model.specs.BusTurns.{device_start}
use Rattle.vd_device.proofs.device.Device.is_busy.Goals as goal

pub returns-then-is_live : goal.returns-then-is_live
returns-then-is_live c = λ x made acts m s.
    c.if-is_live.true ∙ sym (ap (λ b. b || nat_lt 0 (untaken (message_acts acts))) (sym (c.is_live.ensures x acts m s.memory) ∙ c.if-is_live.true))

pub returns-else-is_live : goal.returns-else-is_live
returns-else-is_live c = λ x made acts m s.
    ap (λ n. nat_lt 0 n) (c.untaken.ensures device_start (message_acts acts) s.path.messages)
    ∙ sym (ap (λ b. b || nat_lt 0 (untaken (message_acts acts))) (sym (c.is_live.ensures x acts m s.memory) ∙ c.if-is_live.false))
