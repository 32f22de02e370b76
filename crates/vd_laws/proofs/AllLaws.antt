-- The laws together.
use Rattle.vd_model.specs.Setting.{Setting}
use Rattle.vd_model.specs.History.{History}
use Rattle.vd_laws.specs.Laws.{Laws}
use Rattle.vd_laws.proofs.ReadLaw.{read_law}
use Rattle.vd_laws.proofs.MemoryLaw.{memory_law}
use Rattle.vd_laws.proofs.UsedBytesLaw.{used_bytes_law}
use Rattle.vd_laws.proofs.MessageLaw.{message_law}
use Rattle.vd_laws.proofs.IsolationLaw.{isolation_law}
use Rattle.vd_laws.proofs.DirectLaw.{direct_law}
use Rattle.vd_laws.proofs.ImageLaw.{window_is}

pub all_laws : (x : Setting) (h : History) → Laws x h
all_laws x h = record {
  reads = read_law x h;
  memory = memory_law x h;
  used_bytes = used_bytes_law x h;
  messages = message_law x h;
  isolation = isolation_law x h;
  direct = direct_law x h;
  image = window_is x h;
}
