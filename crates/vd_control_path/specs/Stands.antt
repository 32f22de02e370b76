-- The control path before and after a line.
use Rattle.std.specs.Prelude.{ℕ, ◌≡◌, ◌≤◌, ◌++◌, List, true}
use Rattle.std.specs.List.{list_all}
use Rattle.vd_model.specs.Creation.{Creation}
use Rattle.vd_model.specs.Acts.{Act}
use Rattle.vd_model.specs.Live.{is_open, sessions, is_attached}
use Rattle.vd_state.specs.Kept.{CountsWithin}
use Rattle.vd_state_lines.specs.After.{StateBefore}
use Rattle.vd_message_lines.specs.After.{MessagesBefore}
use Rattle.vd_config_lines.specs.After.{ConfigBefore}
use Rattle.vd_control_path.specs.declared.path.ControlPath.{ControlPath}
use Rattle.vd_control_path.specs.Acts.{is_path_act}
use Rattle.vd_control_path.specs.Ends.{closings_of}

-- each part stands for a device's acts
pub record PathBefore (made : Creation) (done : List Act) (p : ControlPath) : Type 0 where
  pub messages : MessagesBefore done p.messages
  pub state : StateBefore made done p.state
  pub config : ConfigBefore made done p.config
  pub opened : p.opened ≡ is_open done
  pub sessions : p.sessions ≡ sessions done
  pub closings : p.closings ≡ closings_of done
  pub attached : p.attached ≡ is_attached done

-- it stands for these acts too, all of which leave the memory alone
pub record PathAfter (made : Creation) (done : List Act) (p : ControlPath) (acts : List Act) : Type 0 where
  pub only : list_all is_path_act acts ≡ true
  pub stands : PathBefore made (acts ++ done) p

-- no count is above this number
pub record IsWithin (most : ℕ) (p : ControlPath) : Type 0 where
  pub state : CountsWithin most p.state
  pub sessions : p.sessions ≤ most
  pub closings : p.closings ≤ most
