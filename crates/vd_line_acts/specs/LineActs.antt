-- Which acts the lines make: for each family of lines a test that all acts of their turns pass, whatever was done before.
use Rattle.std.specs.Prelude.{Bool, true, false}
use Rattle.vd_model.specs.Acts.{Act, Node, Driver, Bus, Message_act, State, Queue, Disk_act, Opened, Closed, Deregistered, Config_put, Daemon_put, Fetched, Executed, Finished, Stored}
use Rattle.vd_model.specs.Messages.{Sent, Timed, Took, Received, Answered, Lost}
use Rattle.vd_model.specs.State.{Max_set, Status_set, Features_set, Num_set, Addr_set, Ready_set, Avail_set, Kick_file_set, Kicked, Kicks_taken, Callback_set, Injected, Interrupts_taken, Cleared}

-- ---- lines on a device

-- the lines of the bus
abbrev pub is_bus_line_act : Act → Bool
is_bus_line_act (Bus act) = true
is_bus_line_act (Message_act (Sent m)) = true
is_bus_line_act (Message_act (Timed seconds)) = true
is_bus_line_act (Message_act (Took id)) = true
is_bus_line_act (State (Status_set value)) = true
is_bus_line_act (State (Features_set features)) = true
is_bus_line_act (State (Num_set q num)) = true
is_bus_line_act (State (Addr_set q desc driver device)) = true
is_bus_line_act (State (Ready_set q flag)) = true
is_bus_line_act (State (Avail_set q avail)) = true
is_bus_line_act (State (Kicked q)) = true
is_bus_line_act (State (Callback_set on flag)) = true
is_bus_line_act (State (Interrupts_taken on)) = true
is_bus_line_act (State Cleared) = true
is_bus_line_act _ = false

-- the plain lines of the node
abbrev pub is_plain_node_line_act : Act → Bool
is_plain_node_line_act (Node Opened) = true
is_plain_node_line_act (Node Closed) = true
is_plain_node_line_act (Node Deregistered) = true
is_plain_node_line_act (Node (Config_put at bytes)) = true
is_plain_node_line_act (Message_act (Received id)) = true
is_plain_node_line_act (Message_act (Answered id result avail)) = true
is_plain_node_line_act (Message_act Lost) = true
is_plain_node_line_act (State (Max_set q max)) = true
is_plain_node_line_act (State (Kick_file_set q flag)) = true
is_plain_node_line_act (State (Kicks_taken q)) = true
is_plain_node_line_act (State (Injected on)) = true
is_plain_node_line_act _ = false

-- all lines of the node: an ioctl may stand for a line of the area
abbrev pub is_node_line_act : Act → Bool
is_node_line_act (Node act) = true
is_node_line_act act = is_plain_node_line_act act

-- the lines of the node, of its area, of the bus and of the driver
abbrev pub is_device_line_act : Act → Bool
is_device_line_act (Queue act) = false
is_device_line_act (Disk_act act) = false
is_device_line_act _ = true

-- ---- lines of the block daemon, of which a walk makes no act

-- execute
abbrev pub is_execute_act : Act → Bool
is_execute_act (Disk_act (Stored at bytes)) = true
is_execute_act (Queue (Executed q status bytes)) = true
is_execute_act _ = false

-- fetch, execute and finish
abbrev pub is_daemon_line_act : Act → Bool
is_daemon_line_act (Node (Daemon_put at bytes)) = true
is_daemon_line_act (Queue (Fetched q)) = true
is_daemon_line_act (Queue (Finished q)) = true
is_daemon_line_act act = is_execute_act act
