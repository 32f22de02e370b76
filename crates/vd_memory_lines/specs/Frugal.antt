-- The lines that take no memory.
use Rattle.std.specs.Prelude.{Bool, true, false}
use Rattle.vd_model.specs.declared.step.DriverStep.{DriverStep}
use Rattle.vd_model.specs.declared.step.DriverStep.TheVariants as driver
use Rattle.vd_model.specs.declared.step.AreaStep.{AreaStep}
use Rattle.vd_model.specs.declared.step.AreaStep.TheVariants as area

abbrev pub is_frugal_driver_line : DriverStep → Bool
is_frugal_driver_line (driver.Free buffer) = true
is_frugal_driver_line (driver.Poke buffer offset bytes) = true
is_frugal_driver_line (driver.Unmap mapping) = true
is_frugal_driver_line (driver.SyncDev mapping) = true
is_frugal_driver_line (driver.SyncCpu mapping) = true
is_frugal_driver_line (driver.FreeCoherent region) = true
is_frugal_driver_line (driver.Cput region offset bytes) = true
is_frugal_driver_line _ = false

abbrev pub is_frugal_area_line : AreaStep → Bool
is_frugal_area_line (area.Lookup start last) = true
is_frugal_area_line (area.IovaInfo start last) = true
is_frugal_area_line (area.AreaPut offset bytes) = true
is_frugal_area_line (area.RegUmem uaddr iova size) = true
is_frugal_area_line (area.DeregUmem iova size) = true
is_frugal_area_line (area.Store at bytes) = true
is_frugal_area_line _ = false
