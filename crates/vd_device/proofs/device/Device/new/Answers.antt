use Rattle.vd_device.proofs.device.Device.new.Goals as goal

pub returns-clause-stands : goal.returns-clause-stands
returns-clause-stands c = λ x m sized. record { path = c.in_ok-new.ensures.stands; memory = c.in_ok-new-2.ensures.stands x m sized.bounce sized.iova sized.per_page }

pub returns-clause-held : goal.returns-clause-held
returns-clause-held c = λ m e. let held = c.in_ok-new-2.ensures.held m e in record { holds = held.holds; size = held.size }
