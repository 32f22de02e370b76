use Rattle.std.proofs.Common.{refl, [], ◌∷◌}
use Rattle.vd_model.specs.Acts.{Message_act}
use Rattle.vd_model.specs.Messages.{Elapsed}
use Rattle.vd_device.proofs.Parts.{path_line}
use Rattle.vd_device.proofs.device.Device.tick.Goals as goal

pub returns-clause-stands : goal.returns-clause-stands
returns-clause-stands c = λ x made done m s. path_line c.tick.new.self (Message_act (Elapsed c.args.now) ∷ []) s (record { only = refl; stands = c.tick.ensures.stands made done s.path })

pub returns-clause-within : goal.returns-clause-within
returns-clause-within c = λ most w. record { path = c.tick.ensures.within most w.path; maps = w.maps; regions = w.regions }
