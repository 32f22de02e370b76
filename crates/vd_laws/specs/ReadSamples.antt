-- Short runs of one device, for instances of the law on reads.
use Rattle.std.specs.Prelude.{ℕ, List, [], ◌∷◌}
use Rattle.vd_model.specs.declared.memory.Dir.TheVariants.{To}
use Rattle.vd_model.specs.declared.step.Step.TheVariants.{Control, Device}
use Rattle.vd_model.specs.declared.step.DevStep.TheVariants as line
use Rattle.vd_model.specs.declared.step.ControlStep.TheVariants as control
use Rattle.vd_model.specs.declared.step.DriverStep.TheVariants as driver
use Rattle.vd_model.specs.Acts.{Act, Node, Area_made, Registered, Deregistered}
use Rattle.vd_model.specs.History.{History}
use Rattle.vd_laws.specs.Small.{v, history_of}
use Rattle.vd_laws.specs.MemorySamples.{map_sample}

-- two bytes are mapped to the device, and the daemon keeps the bounce memory in its area, from byte 0x10000 on
abbrev pub area_sample : List Act
area_sample = Node (Registered 0x10000 0x10000) ∷ Node (Area_made 0x21000) ∷ map_sample To

-- and then keeps it one page further, where the byte of a page that isn't in use is what the area has there
abbrev pub next_page_sample : List Act
next_page_sample = Node (Registered 0x11000 0x10000) ∷ Node Deregistered ∷ area_sample

-- the run of a script that maps the first two bytes of a buffer of three
abbrev pub part_map_history : ℕ → History
part_map_history third = history_of (
    Device v (line.Driver (driver.Map 0 0 2 To))
    ∷ Device v (line.Driver (driver.Buf (7 ∷ 8 ∷ third ∷ [])))
    ∷ Control (control.Dev v) ∷ [])
