use Rattle.vd_line_acts.proofs.BusLines.{bus_line}
use Rattle.vd_line_acts.proofs.NodeLines.{plain_node_line, node_line}
use Rattle.vd_line_acts.proofs.DeviceLines.{device_line}
use Rattle.vd_line_acts.proofs.DaemonLines.{walk_none, fetch_line, execute_line, finish_line}
use Rattle.vd_line_acts.proofs.acts_of_lines.Goals as goal

pub returns-clause-bus : goal.returns-clause-bus
returns-clause-bus c = bus_line

pub returns-clause-plain_node : goal.returns-clause-plain_node
returns-clause-plain_node c = plain_node_line

pub returns-clause-node : goal.returns-clause-node
returns-clause-node c = node_line

pub returns-clause-device : goal.returns-clause-device
returns-clause-device c = device_line

pub returns-clause-walk : goal.returns-clause-walk
returns-clause-walk c = walk_none

pub returns-clause-fetch : goal.returns-clause-fetch
returns-clause-fetch c = fetch_line

pub returns-clause-execute : goal.returns-clause-execute
returns-clause-execute c = execute_line

pub returns-clause-finish : goal.returns-clause-finish
returns-clause-finish c = finish_line
