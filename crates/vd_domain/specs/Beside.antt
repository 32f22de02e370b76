-- Acts of a device that its domain doesn't see.
use Rattle.std.specs.Prelude.{Bool, true, false}
use Rattle.vd_model.specs.Acts.{Act, Message_act, State, Bus, Queue, Disk_act, Node, Driver, NodeAct, DriverAct, Opened, Config_put, Buffer, Zeroed, Freed, Poked, Synced_cpu}
use Rattle.vd_model.specs.State.{Cleared}

-- the daemon's acts on neither the area nor bounce memory
abbrev pub is_node_beside : NodeAct → Bool
is_node_beside Opened = true
is_node_beside (Config_put at bytes) = true
is_node_beside _ = false

-- the driver's acts on buffers alone
abbrev pub is_driver_beside : DriverAct → Bool
is_driver_beside (Buffer bytes) = true
is_driver_beside (Zeroed len) = true
is_driver_beside (Freed buffer) = true
is_driver_beside (Poked buffer at bytes) = true
is_driver_beside (Synced_cpu mapping) = true
is_driver_beside _ = false

-- no domain sees the act: after it a domain stands as it is
abbrev pub is_beside : Act → Bool
is_beside (Message_act act) = true
is_beside (State Cleared) = false
is_beside (State act) = true
is_beside (Bus act) = true
is_beside (Queue act) = true
is_beside (Disk_act act) = true
is_beside (Node act) = is_node_beside act
is_beside (Driver act) = is_driver_beside act
