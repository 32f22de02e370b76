-- Short lists of acts of one device, for instances of the laws on memory, used bytes and the machine without copies.
use Rattle.std.specs.Prelude.{ℕ, List, [], ◌∷◌, ◌++◌}
use Rattle.vd_model.specs.declared.memory.Dir.{Dir}
use Rattle.vd_model.specs.declared.memory.Dir.TheVariants.{Both}
use Rattle.vd_model.specs.declared.step.Step.TheVariants.{Control, Device}
use Rattle.vd_model.specs.declared.step.DevStep.TheVariants as line
use Rattle.vd_model.specs.declared.step.AreaStep.TheVariants as area
use Rattle.vd_model.specs.declared.step.ControlStep.TheVariants as control
use Rattle.vd_model.specs.declared.step.DriverStep.TheVariants as driver
use Rattle.vd_model.specs.Setting.{Setting}
use Rattle.vd_model.specs.Acts.{Act, Node, Driver, Streaming, Daemon_put, Area_made, Registered, Buffer, Poked, Mapped, Region_made, Driver_put}
use Rattle.vd_model.specs.History.{History}
use Rattle.vd_laws.specs.Small.{v, history_of}

-- the two bytes of buffer 0 are mapped at address 0xf000
abbrev pub mapping_sample : Dir → Streaming
mapping_sample dir = record { number = 0; slot = 15; want = record { buffer = 0; offset = 0; len = 2; dir = dir } }

abbrev pub map_sample : Dir → List Act
map_sample dir = Driver (Mapped (mapping_sample dir)) ∷ Driver (Buffer (7 ∷ 8 ∷ [])) ∷ []

-- a daemon stores a byte over the second of them
abbrev pub store_sample : Dir → List Act
store_sample dir = Node (Daemon_put 0xf001 (9 ∷ [])) ∷ map_sample dir

-- or writes it in its area, where the bounce memory lies from byte 0x10000 on
abbrev pub registration_sample : Dir → List Act
registration_sample dir = Node (Registered 0x10000 0x10000) ∷ Node (Area_made 0x20000) ∷ map_sample dir

-- the driver writes over the first of them
abbrev pub poke_sample : Dir → List Act
poke_sample dir = Driver (Poked 0 0 (5 ∷ [])) ∷ map_sample dir

-- the second byte is mapped once more, at address 0xe000, and then one store goes over both
abbrev pub second_mapping : Streaming
second_mapping = record { number = 1; slot = 14; want = record { buffer = 0; offset = 1; len = 1; dir = Both } }

abbrev pub two_maps_sample : List Act
two_maps_sample = Driver (Mapped second_mapping) ∷ map_sample Both

-- a byte of a coherent region at address 0x1f000
abbrev pub coherent_sample : List Act
coherent_sample = Driver (Driver_put 0x1f000 (5 ∷ [])) ∷ Driver (Region_made (record { number = 0; slot = 31; len = 8 })) ∷ []

-- sixteen slots of bounce memory, so many in a page, and sixteen of coherent memory
abbrev pub sample_setting : ℕ → Setting
sample_setting g = record { bounce = 16; iova = 32; per_page = g; sectors = 0; content = λ i. 0 }

-- the run of a script that maps the two bytes
abbrev pub map_history : Dir → History
map_history dir = history_of (
    Device v (line.Driver (driver.Map 0 0 2 dir))
    ∷ Device v (line.Driver (driver.Buf (7 ∷ 8 ∷ [])))
    ∷ Control (control.Dev v) ∷ [])

-- then a daemon stores a byte over the second of them, and the driver unmaps them
abbrev pub unmap_history : Dir → History
unmap_history dir = history_of (
    Device v (line.Driver (driver.Unmap 0))
    ∷ Device v (line.Area (area.Store 0xf001 (9 ∷ []))) ∷ []) ++ map_history dir
