-- When the making of a device is refused.
use Rattle.std.specs.Prelude.{Bool, ◌||◌}
use Rattle.vd_abi.specs.declared.control.DevConfig.{DevConfig}
use Rattle.vd_model.specs.ControlTurns.{is_bad_name, is_bad_config}

-- the name is empty or has another byte than a lower-case letter, a digit, _ or -, or what the device
-- is to be isn't served
abbrev pub is_refused : DevConfig → Bool
is_refused c = is_bad_name c.name || is_bad_config c.device_id c.features c.vq_num c.vq_align c.config
