use Rattle.std.proofs.Common.{◌*◌, refl, false, [], ◌∷◌}
use Rattle.vd_model.specs.Acts.{Message_act}
use Rattle.vd_model.specs.Messages.{Elapsed}
use Rattle.vd_request_laws.proofs.Pending.{quiet_owned}
use Rattle.vd_instance.specs.Stands.{kept_ring}
use Rattle.vd_instance.proofs.Kept.{device_line, spares_all}
use Rattle.vd_instance.proofs.instance.Instance.tick.Goals as goal

pub returns-clause-stands : goal.returns-clause-stands
returns-clause-stands c = λ x made done m s.
    device_line (λ n. false) c.tick.new.self (Message_act (Elapsed c.args.now) ∷ []) (λ q. spares_all (kept_ring c.args.self.now q)) refl
    (quiet_owned (Message_act (Elapsed c.args.now) ∷ []) done made.queues refl s.owned) s (c.tick.ensures.stands x made done m s.device)

pub returns-clause-within : goal.returns-clause-within
returns-clause-within c = λ most w. c.tick.ensures.within (4 * most) w
