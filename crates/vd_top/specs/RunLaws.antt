-- All laws of one run.
use Rattle.vd_model.specs.Setting.{Setting}
use Rattle.vd_model.specs.History.{History}
use Rattle.vd_laws.specs.Laws.{Laws}
use Rattle.vd_transfer_laws.specs.TransferLaw.{TransferLaw}
use Rattle.vd_region_laws.specs.RegionLaw.{RegionLaw}
use Rattle.vd_disk_laws.specs.RingLaws.{RingLaws}

-- the laws together: those of every history, what goes over a mapping in one direction, where coherent regions lie, and those of requests
pub record RunLaws (x : Setting) (h : History) : Type 0 where
  pub laws : Laws x h
  pub transfers : TransferLaw x h
  pub regions : RegionLaw x h
  pub requests : RingLaws x h
