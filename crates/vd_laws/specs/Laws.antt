-- All that is proved of a history.
use Rattle.vd_model.specs.Setting.{Setting}
use Rattle.vd_model.specs.History.{History}
use Rattle.vd_laws.specs.ReadLaw.{ReadLaw}
use Rattle.vd_laws.specs.MemoryLaw.{MemoryLaw}
use Rattle.vd_laws.specs.UsedBytesLaw.{UsedBytesLaw}
use Rattle.vd_laws.specs.MessageLaw.{MessageLaw}
use Rattle.vd_laws.specs.IsolationLaw.{IsolationLaw}
use Rattle.vd_laws.specs.DirectLaw.{DirectLaw}
use Rattle.vd_laws.specs.ImageLaw.{ImageLaw}

-- the laws together, as they hold of one history
pub record Laws (x : Setting) (h : History) : Type 0 where
  pub reads : ReadLaw x h
  pub memory : MemoryLaw x h
  pub used_bytes : UsedBytesLaw x h
  pub messages : MessageLaw x h
  pub isolation : IsolationLaw x h
  pub direct : DirectLaw x h
  pub image : ImageLaw x h
