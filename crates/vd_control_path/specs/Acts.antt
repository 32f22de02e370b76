-- Which acts the control path sees, and which the memory of the device.
use Rattle.std.specs.Prelude.{Bool, true, false}
use Rattle.vd_model.specs.Acts.{Act, Node, Driver, Bus, Message_act, State, Queue, Disk_act, Opened, Daemon_put, Area_made, Area_put, Config_put, Registered, Deregistered}
use Rattle.vd_model.specs.State.{Cleared}

-- an act of the control path that leaves the memory alone, as a reset and the end of a session don't
abbrev pub is_path_act : Act → Bool
is_path_act (Message_act act) = true
is_path_act (State Cleared) = false
is_path_act (State act) = true
is_path_act (Bus act) = true
is_path_act (Node Opened) = true
is_path_act (Node (Config_put at bytes)) = true
is_path_act _ = false

-- an act that leaves the control path alone
abbrev pub is_memory_act : Act → Bool
is_memory_act (Driver act) = true
is_memory_act (Queue act) = true
is_memory_act (Disk_act act) = true
is_memory_act (Node (Daemon_put at bytes)) = true
is_memory_act (Node (Area_made len)) = true
is_memory_act (Node (Area_put at bytes)) = true
is_memory_act (Node (Registered base size)) = true
is_memory_act (Node Deregistered) = true
is_memory_act _ = false
