use Rattle.std.proofs.Common.{◌≤◌, arith, length}
use Rattle.vd_driver_port.proofs.Mapping.{number_room}
use Rattle.vd_driver_port.proofs.port.DriverPortDma.map_all.Goals as goal

pub returns-clause-mapped : goal.returns-clause-mapped
returns-clause-mapped c = λ x acts ms s text e. c.map_all.ensures.mapped x acts ms s e

pub returns-clause-room : goal.returns-clause-room
returns-clause-room c =
    let fits : length c.args.wants.now ≤ c.args.self.now.maps_left = omega arith in
    number_room c.map_all.result c.args.self.now.memory.now.domain.maps (length c.args.wants.now) c.args.self.now.maps_left c.map_all.ensures.number c.args.self.now.room fits
