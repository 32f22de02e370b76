-- The config space of a device before and after a line.
use Rattle.std.specs.Prelude.{ℕ, ◌≡◌, ◌++◌, List, Bool, true, false, length}
use Rattle.std.specs.List.{list_all}
use Rattle.vd_model.specs.Creation.{Creation}
use Rattle.vd_model.specs.Acts.{Act, Node, Config_put}
use Rattle.vd_model.specs.BusTurns.{config_of}

-- the space stands for a device's acts, and is as long as it was made
pub record ConfigBefore (made : Creation) (done : List Act) (space : List ℕ) : Type 0 where
  pub bytes : space ≡ config_of made.config done
  pub size : length space ≡ length made.config

abbrev pub is_config_act : Act → Bool
is_config_act (Node (Config_put at bytes)) = true
is_config_act _ = false

-- the space stands for these acts too, all of which are on it
pub record ConfigAfter (made : Creation) (done : List Act) (space : List ℕ) (acts : List Act) : Type 0 where
  pub only : list_all is_config_act acts ≡ true
  pub stands : ConfigBefore made (acts ++ done) space
