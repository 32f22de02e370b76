use Rattle.std.proofs.Common.{◌-◌, ◌^◌, arith}
use Rattle.vd_model.specs.Acts.{state_acts}
use Rattle.vd_model.specs.BusTurns.{shape_of}
use Rattle.vd_state.proofs.Counts.{all_can_begin}
use Rattle.vd_control_path.proofs.Parts.{state_within}
use Rattle.vd_control_path.proofs.path.ControlPath.reset.Goals as goal

pub returns-clause-stands : goal.returns-clause-stands
returns-clause-stands c = λ made done s. record {
  messages = s.messages;
  state = c.reset.ensures.stands (shape_of made) (state_acts done) s.state;
  config = record { bytes = s.config.bytes; size = s.config.size };
  opened = s.opened;
  sessions = s.sessions;
  closings = s.closings;
  attached = s.attached;
}

pub returns-clause-within : goal.returns-clause-within
returns-clause-within c = λ most w. state_within most _ _ w (c.reset.ensures.counts most w.state)

pub reset-requires : goal.reset-requires
reset-requires c = all_can_begin (2 ^ 62 - 1) _ (omega arith) c.requires
