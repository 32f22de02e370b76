use Rattle.std.proofs.Common.{◌≡◌, true, refl, Option, Some, None, List, ◌∷◌, ◌++◌}
use Rattle.std.specs.List.{list_all}
use Rattle.vd_model.specs.Acts.{Node, Message_act, Closed}
use Rattle.vd_model.specs.Messages.{Lost}
use Rattle.vd_model.specs.Live.{Registration, registration_of}
use Rattle.vd_model.specs.NodeTurns.{registration_end}
use Rattle.vd_control_path.specs.Acts.{is_memory_act}
use Rattle.vd_control_path.proofs.Parts as path
use Rattle.vd_device.proofs.Parts.{path_act}
use Rattle.vd_device.proofs.device.Device.close.Goals as goal

-- the end of a registration is on the memory alone
end_only : (o : Option Registration) → list_all is_memory_act (registration_end o) ≡ true
end_only None = refl
end_only (Some r) = refl

pub returns-clause-stands : goal.returns-clause-stands
returns-clause-stands c = λ x made done s. record {
  path = c.close.ensures.stands made (registration_end (registration_of done) ++ done) (path.memory_line (registration_end (registration_of done)) (end_only (registration_of done)) s.path);
  memory = path_act x (Node Closed ∷ registration_end (registration_of done) ++ done) c.end_session.new.self c.end_session.new.pool (Message_act Lost) refl (c.end_session.ensures.stands x done s.memory);
}
