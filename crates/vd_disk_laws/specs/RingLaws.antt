-- Both laws of the requests of a calm history.
use Rattle.vd_model.specs.Setting.{Setting}
use Rattle.vd_model.specs.History.{History}
use Rattle.vd_order_laws.specs.OrderLaw.{OrderLaw}
use Rattle.vd_disk_laws.specs.BlockLaw.{BlockLaw}

-- the laws together, as they hold of one history
pub record RingLaws (x : Setting) (h : History) : Type 0 where
  pub order : OrderLaw x h
  pub block : BlockLaw x h
