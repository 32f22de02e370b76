-- The parts of a bus as contracts see them.
use Rattle.vd_vhost.specs.declared.bus.Bus.{Bus}
use Rattle.vd_vhost.specs.After.{BusParts}

-- without the allocator and the room of a load
abbrev pub parts_of : Bus → BusParts
parts_of bus = record { guest = bus.guest; messages = bus.messages; latest = bus.latest; clock = bus.clock }
